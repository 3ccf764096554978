-- Bodies that come and go in an outlet, by their places.
use Rattle.std.proofs.Common.{◌≡◌, ◌+◌, ◌<◌, ◌≤◌, ℕ, zero, suc, Bool, true, false, cond, List, [], ◌∷◌, Option, Some, refl, ap, ◌∙◌, sym, map, slice_get, arith}
use Rattle.std.specs.Prelude.{not}
use Rattle.std.specs.List.{AllByRecursion, filter}
use Rattle.ng_base.specs.declared.path.Key.{Key}
use Rattle.ng_dom.specs.Drawing.{Look, Source, Stand, Stands, Bodies, text_stands, comment_stands, element_stands, block_stands, none_stand, stand_then, no_bodies, body_then, show, shows, show_bodies, HomedAll, HomedBodies, at_block, at_block_all}
use Rattle.ng_dom.specs.Editing.{group_inserted, group_removed}
use Rattle.ng_dom.specs.Lists.{put_at, list_at}
use Rattle.ng_dom.specs.Nodes.{group_then, name_of, names_of, group_names}
use Rattle.ng_dom.specs.Removal.{group_emptied}
use Rattle.ng_instances.specs.Instances.{Body, OutletState, is_path, read_bodies, bodies_from, groups_from, body_added, body_gone}
use Rattle.ng_drawing.specs.Template.{Parts}
use Rattle.ng_link.specs.Standing.{IsIn, AreIn, AreUndrawn, body_count, held_count}
use Rattle.ng_instances.proofs.PathIs.{path_is}
use Rattle.ng_link.proofs.PathsBelow.{is_that}

-- a body is put before the i-th, or at the end where there are fewer; the i-th is taken out; nothing stands in the i-th any more
abbrev pub bodies_put : ℕ → Stands → Bodies → Bodies
bodies_put zero ts bs = body_then ts bs
bodies_put (suc i) ts no_bodies = body_then ts no_bodies
bodies_put (suc i) ts (body_then us bs) = body_then us (bodies_put i ts bs)

abbrev pub bodies_cut : ℕ → Bodies → Bodies
bodies_cut i no_bodies = no_bodies
bodies_cut zero (body_then us bs) = bs
bodies_cut (suc i) (body_then us bs) = body_then us (bodies_cut i bs)

abbrev pub bodies_emptied : ℕ → Bodies → Bodies
bodies_emptied i no_bodies = no_bodies
bodies_emptied zero (body_then us bs) = body_then none_stand bs
bodies_emptied (suc i) (body_then us bs) = body_then us (bodies_emptied i bs)

-- what they show
module _ (v : Key → Look) where
  pub show_put : (i : ℕ) (ts : Stands) (bs : Bodies) → show_bodies v (bodies_put i ts bs) ≡ group_inserted i (shows v ts) (show_bodies v bs)
  show_put zero ts bs = refl
  show_put (suc i) ts no_bodies = refl
  show_put (suc i) ts (body_then us bs) = ap (group_then (shows v us)) (show_put i ts bs)

  pub show_cut : (i : ℕ) (bs : Bodies) → show_bodies v (bodies_cut i bs) ≡ group_removed i (show_bodies v bs)
  show_cut i no_bodies = refl
  show_cut zero (body_then us bs) = refl
  show_cut (suc i) (body_then us bs) = ap (group_then (shows v us)) (show_cut i bs)

  pub show_emptied : (i : ℕ) (bs : Bodies) → show_bodies v (bodies_emptied i bs) ≡ group_emptied i (show_bodies v bs)
  show_emptied i no_bodies = refl
  show_emptied zero (body_then us bs) = refl
  show_emptied (suc i) (body_then us bs) = ap (group_then (shows v us)) (show_emptied i bs)

  -- the i-th has no name any more
  pub none_at : (i : ℕ) (bs : Bodies) → list_at i (group_names (show_bodies v (bodies_emptied i bs))) ≡ []
  none_at i no_bodies = refl
  none_at zero (body_then us bs) = refl
  none_at (suc i) (body_then us bs) = none_at i bs

  -- a change of bodies leaves the names at the top
  top_name : (a : ℕ) (h : Bodies → Bodies) (m : Stand) → name_of (show v (at_block a h m)) ≡ name_of (show v m)
  top_name a h (text_stands n ps) = refl
  top_name a h (comment_stands n t) = refl
  top_name a h (element_stands n e ats ms) = refl
  top_name a h (block_stands n cs) = refl

  pub top_names : (a : ℕ) (h : Bodies → Bodies) (ms : Stands) → names_of (shows v (at_block_all a h ms)) ≡ names_of (shows v ms)
  top_names a h none_stand = refl
  top_names a h (stand_then m ms) = ap (λ (n : ℕ). n ∷ names_of (shows v (at_block_all a h ms))) (top_name a h m) ∙ ap (λ (ns : List ℕ). name_of (show v m) ∷ ns) (top_names a h ms)

-- what they are drawn from
module _ (home : ℕ → Option Source) where
  pub homed_put : (i : ℕ) (ts : Stands) → HomedAll home ts → (bs : Bodies) → HomedBodies home bs → HomedBodies home (bodies_put i ts bs)
  homed_put zero ts t bs h = (t, h)
  homed_put (suc i) ts t no_bodies h = (t, tt)
  homed_put (suc i) ts t (body_then us bs) h = (h.0, homed_put i ts t bs h.1)

  pub homed_cut : (i : ℕ) (bs : Bodies) → HomedBodies home bs → HomedBodies home (bodies_cut i bs)
  homed_cut i no_bodies h = tt
  homed_cut zero (body_then us bs) h = h.1
  homed_cut (suc i) (body_then us bs) h = (h.0, homed_cut i bs h.1)

from_put : (i : ℕ) (ts : Stands) (xs : List Stands) → bodies_from (put_at i ts xs) ≡ bodies_put i ts (bodies_from xs)
from_put zero ts xs = refl
from_put (suc i) ts [] = refl
from_put (suc i) ts (x ∷ xs) = ap (body_then x) (from_put i ts xs)

-- a body more in an outlet, before the i-th
module _ (go : List ℕ → Stands) (b : Body) where
  paths_put : (i : ℕ) (bs : List Body) → map (λ (c : Body). go c.path) (put_at i b bs) ≡ put_at i (go b.path) (map (λ (c : Body). go c.path) bs)
  paths_put zero bs = refl
  paths_put (suc i) [] = refl
  paths_put (suc i) (c ∷ bs) = ap (λ (xs : List Stands). go c.path ∷ xs) (paths_put i bs)

  pub added_groups : (os : List OutletState) (o i : ℕ) (x : OutletState) → slice_get os o ≡ Some x
      → groups_from (read_bodies go (body_added o i b os)) o ≡ bodies_put i (go b.path) (groups_from (read_bodies go os) o)
  added_groups [] o i x e = absurd (cc)
  added_groups (y ∷ ys) zero i x e = ap bodies_from (paths_put i y.bodies) ∙ from_put i (go b.path) (map (λ (c : Body). go c.path) y.bodies)
  added_groups (y ∷ ys) (suc o) i x e = added_groups ys o i x e

  pub added_others : (os : List OutletState) (o i n : ℕ) → (n ≡ o → ⊥) → groups_from (read_bodies go (body_added o i b os)) n ≡ groups_from (read_bodies go os) n
  added_others [] o i n ne = refl
  added_others (y ∷ ys) zero i zero ne = absurd (ne refl)
  added_others (y ∷ ys) zero i (suc n) ne = refl
  added_others (y ∷ ys) (suc o) i zero ne = refl
  added_others (y ∷ ys) (suc o) i (suc n) ne = added_others ys o i n (λ e. ne (ap suc e))

pub added_anchors : (b : Body) (os : List OutletState) (o i : ℕ) → map (λ (x : OutletState). x.anchor) (body_added o i b os) ≡ map (λ (x : OutletState). x.anchor) os
added_anchors b [] o i = refl
added_anchors b (y ∷ ys) zero i = refl
added_anchors b (y ∷ ys) (suc o) i = ap (λ (ns : List ℕ). y.anchor ∷ ns) (added_anchors b ys o i)

pub added_undrawn : (serials : List ℕ) (ps : Parts) (b : Body) (os : List OutletState) (o i : ℕ) → AreUndrawn serials ps os → AreUndrawn serials ps (body_added o i b os)
added_undrawn serials ps b [] o i all = tt
added_undrawn serials ps b (y ∷ ys) zero i all = all
added_undrawn serials ps b (y ∷ ys) (suc o) i all = (all.0, added_undrawn serials ps b ys o i all.1)

put_in : (p : List ℕ) (b : Body) → IsIn p b → (i : ℕ) (bs : List Body) → AllByRecursion (IsIn p) bs → AllByRecursion (IsIn p) (put_at i b bs)
put_in p b has zero bs all = (has, all)
put_in p b has (suc i) [] all = (has, tt)
put_in p b has (suc i) (c ∷ bs) all = (all.0, put_in p b has i bs all.1)

pub added_in : (p : List ℕ) (b : Body) → IsIn p b → (os : List OutletState) (o i : ℕ) → AreIn p os → AreIn p (body_added o i b os)
added_in p b has [] o i all = tt
added_in p b has (y ∷ ys) zero i all = (put_in p b has i y.bodies all.0, all.1)
added_in p b has (y ∷ ys) (suc o) i all = (all.0, added_in p b has ys o i all.1)

-- it is counted
put_count : (q : List ℕ) (b : Body) (i : ℕ) (bs : List Body) → body_count q (put_at i b bs) ≡ body_count q bs + cond {A = ℕ} (is_path q b.path) 1 0
put_count q b zero bs = omega arith
put_count q b (suc i) [] = omega arith
put_count q b (suc i) (c ∷ bs) = omega (arith, put_count q b i bs)

pub added_count : (q : List ℕ) (b : Body) (os : List OutletState) (o i : ℕ) → held_count q (body_added o i b os) ≤ held_count q os + cond {A = ℕ} (is_path q b.path) 1 0
added_count q b [] o i = omega arith
added_count q b (y ∷ ys) zero i = omega (arith, put_count q b i y.bodies)
added_count q b (y ∷ ys) (suc o) i = omega (arith, added_count q b ys o i)

pub added_more : (q : List ℕ) (b : Body) (os : List OutletState) (o i : ℕ) → held_count q os ≤ held_count q (body_added o i b os)
added_more q b [] o i = omega arith
added_more q b (y ∷ ys) zero i = omega (arith, put_count q b i y.bodies)
added_more q b (y ∷ ys) (suc o) i = omega (arith, added_more q b ys o i)

pub added_there : (b : Body) (os : List OutletState) (o i : ℕ) (x : OutletState) → slice_get os o ≡ Some x → 0 < held_count b.path (body_added o i b os)
added_there b [] o i x e = absurd (cc)
added_there b (y ∷ ys) zero i x e = let here : cond {A = ℕ} (is_path b.path b.path) 1 0 ≡ 1 = ap (λ (t : Bool). cond {A = ℕ} t 1 0) (is_that b.path b.path refl) in omega (arith, put_count b.path b i y.bodies, here)
added_there b (y ∷ ys) (suc o) i x e = omega (arith, added_there b ys o i x e)

-- a body is gone
module _ (p : List ℕ) where
  abbrev left : List Body → List Body
  left bs = filter (λ (b : Body). not (is_path p b.path)) bs

  pub counted : (ds : List Body) (j : ℕ) (d : Body) → slice_get ds j ≡ Some d → p ≡ d.path → 0 < body_count p ds
  counted [] j d f same = absurd (cc)
  counted (g ∷ ds) zero d f same =
      let one : g ≡ d = cc in
      let at : cond {A = ℕ} (is_path p g.path) 1 0 ≡ 1 = ap (λ (u : Bool). cond {A = ℕ} u 1 0) (is_that p g.path (same ∙ ap (λ (x : Body). x.path) (sym one))) in
      omega (arith, at)
  counted (g ∷ ds) (suc j) d f same = omega (arith, counted ds j d f same)

  module _ (go : List ℕ → Stands) where
    abbrev told : List Body → List Stands
    told bs = map (λ (c : Body). go c.path) bs

    none_left : (bs : List Body) → body_count p bs ≡ 0 → told (left bs) ≡ told bs
    none_left [] e = refl
    none_left (c ∷ bs) e = by_test (is_path p c.path) refl (none_left bs (omega (arith, e)))
      where
        by_test : (b : Bool) → is_path p c.path ≡ b → told (left bs) ≡ told bs → told (cond (not b) (c ∷ left bs) (left bs)) ≡ told (c ∷ bs)
        by_test true is more = absurd (let one : cond {A = ℕ} (is_path p c.path) 1 0 ≡ 1 = ap (λ (t : Bool). cond {A = ℕ} t 1 0) is in omega (arith, one, e))
        by_test false is more = ap (λ (xs : List Stands). go c.path ∷ xs) more

    one_left : (bs : List Body) (i : ℕ) (b : Body) → slice_get bs i ≡ Some b → p ≡ b.path → body_count p bs ≤ 1 → bodies_from (told (left bs)) ≡ bodies_cut i (bodies_from (told bs))
    one_left [] i b e is le = absurd (cc)
    one_left (c ∷ bs) zero b e is le =
        let same : c ≡ b = cc in
        let here : is_path p c.path ≡ true = is_that p c.path (is ∙ ap (λ (x : Body). x.path) (sym same)) in
        let one : cond {A = ℕ} (is_path p c.path) 1 0 ≡ 1 = ap (λ (t : Bool). cond {A = ℕ} t 1 0) here in
        ap (λ (t : Bool). bodies_from (told (cond (not t) (c ∷ left bs) (left bs)))) here ∙ ap bodies_from (none_left bs (omega (arith, one, le)))
    one_left (c ∷ bs) (suc i) b e is le = by_test (is_path p c.path) refl (one_left bs i b e is (omega (arith, le)))
      where
        by_test : (t : Bool) → is_path p c.path ≡ t → bodies_from (told (left bs)) ≡ bodies_cut i (bodies_from (told bs)) → bodies_from (told (cond (not t) (c ∷ left bs) (left bs))) ≡ bodies_cut (suc i) (bodies_from (told (c ∷ bs)))
        by_test true here more = absurd (let one : cond {A = ℕ} (is_path p c.path) 1 0 ≡ 1 = ap (λ (u : Bool). cond {A = ℕ} u 1 0) here in let there = counted bs i b e is in omega (arith, one, there, le))
        by_test false here more = ap (body_then (go c.path)) more

  pub counted_at : (os : List OutletState) (o : ℕ) (x : OutletState) (i : ℕ) (b : Body) → slice_get os o ≡ Some x → slice_get x.bodies i ≡ Some b → p ≡ b.path → 0 < held_count p os
  counted_at [] o x i b e at is = absurd (cc)
  counted_at (y ∷ ys) zero x i b e at is = let same : y ≡ x = cc in let lt = counted y.bodies i b (ap (λ (z : OutletState). slice_get z.bodies i) same ∙ at) is in omega (arith, lt)
  counted_at (y ∷ ys) (suc o) x i b e at is = omega (arith, counted_at ys o x i b e at is)

  module _ (go : List ℕ → Stands) where
    pub gone_none : (os : List OutletState) → held_count p os ≡ 0 → read_bodies go (body_gone p os) ≡ read_bodies go os
    gone_none [] e = refl
    gone_none (y ∷ ys) e =
        ap (λ (xs : List Stands). xs ∷ read_bodies go (body_gone p ys)) (none_left go y.bodies (omega (arith, e)))
        ∙ ap (λ (xss : List (List Stands)). map (λ (c : Body). go c.path) y.bodies ∷ xss) (gone_none ys (omega (arith, e)))

    pub gone_groups : (os : List OutletState) (o : ℕ) (x : OutletState) (i : ℕ) (b : Body) → slice_get os o ≡ Some x → slice_get x.bodies i ≡ Some b → p ≡ b.path → held_count p os ≤ 1
        → (groups_from (read_bodies go (body_gone p os)) o ≡ bodies_cut i (groups_from (read_bodies go os) o))
        × ((n : ℕ) → (n ≡ o → ⊥) → groups_from (read_bodies go (body_gone p os)) n ≡ groups_from (read_bodies go os) n)
    gone_groups [] o x i b e at is le = absurd (cc)
    gone_groups (y ∷ ys) zero x i b e at is le =
        let same : y ≡ x = cc in
        let here : slice_get y.bodies i ≡ Some b = ap (λ (z : OutletState). slice_get z.bodies i) same ∙ at in
        let lt = counted y.bodies i b here is in (one_left go y.bodies i b here is (omega (arith, le)), others (gone_none ys (omega (arith, lt, le))))
      where
        others : read_bodies go (body_gone p ys) ≡ read_bodies go ys → (n : ℕ) → (n ≡ 0 → ⊥) → groups_from (read_bodies go (body_gone p (y ∷ ys))) n ≡ groups_from (read_bodies go (y ∷ ys)) n
        others rest zero ne = absurd (ne refl)
        others rest (suc n) ne = ap (λ (xss : List (List Stands)). groups_from xss n) rest
    gone_groups (y ∷ ys) (suc o) x i b e at is le =
        let lt = counted_at ys o x i b e at is in
        let rest = gone_groups ys o x i b e at is (omega (arith, le)) in (rest.0, others (none_left go y.bodies (omega (arith, lt, le))) rest.1)
      where
        others : told go (left y.bodies) ≡ told go y.bodies → ((n : ℕ) → (n ≡ o → ⊥) → groups_from (read_bodies go (body_gone p ys)) n ≡ groups_from (read_bodies go ys) n)
            → (n : ℕ) → (n ≡ suc o → ⊥) → groups_from (read_bodies go (body_gone p (y ∷ ys))) n ≡ groups_from (read_bodies go (y ∷ ys)) n
        others first rest zero ne = ap bodies_from first
        others first rest (suc n) ne = rest n (λ same. ne (ap suc same))

  pub gone_anchors : (os : List OutletState) → map (λ (x : OutletState). x.anchor) (body_gone p os) ≡ map (λ (x : OutletState). x.anchor) os
  gone_anchors [] = refl
  gone_anchors (y ∷ ys) = ap (λ (ns : List ℕ). y.anchor ∷ ns) (gone_anchors ys)

  pub gone_undrawn : (serials : List ℕ) (ps : Parts) (os : List OutletState) → AreUndrawn serials ps os → AreUndrawn serials ps (body_gone p os)
  gone_undrawn serials ps [] all = tt
  gone_undrawn serials ps (y ∷ ys) all = (all.0, gone_undrawn serials ps ys all.1)

  left_in : (q : List ℕ) (bs : List Body) → AllByRecursion (IsIn q) bs → AllByRecursion (IsIn q) (left bs)
  left_in q [] all = tt
  left_in q (c ∷ bs) all = by_test (is_path p c.path) (left_in q bs all.1)
    where
      by_test : (b : Bool) → AllByRecursion (IsIn q) (left bs) → AllByRecursion (IsIn q) (cond (not b) (c ∷ left bs) (left bs))
      by_test true more = more
      by_test false more = (all.0, more)

  pub gone_in : (q : List ℕ) (os : List OutletState) → AreIn q os → AreIn q (body_gone p os)
  gone_in q [] all = tt
  gone_in q (y ∷ ys) all = (left_in q y.bodies all.0, gone_in q ys all.1)

  -- it is counted no more, and none is counted more often
  left_count : (q : List ℕ) (bs : List Body) → body_count q (left bs) ≤ body_count q bs
  left_count q [] = omega arith
  left_count q (c ∷ bs) = by_test (is_path p c.path) (left_count q bs)
    where
      by_test : (b : Bool) → body_count q (left bs) ≤ body_count q bs → body_count q (cond (not b) (c ∷ left bs) (left bs)) ≤ body_count q (c ∷ bs)
      by_test true more = omega (arith, more)
      by_test false more = omega (arith, more)

  pub gone_count : (q : List ℕ) (os : List OutletState) → held_count q (body_gone p os) ≤ held_count q os
  gone_count q [] = omega arith
  gone_count q (y ∷ ys) = omega (arith, left_count q y.bodies, gone_count q ys)

  left_none : (bs : List Body) → body_count p (left bs) ≡ 0
  left_none [] = refl
  left_none (c ∷ bs) = by_test (is_path p c.path) refl (left_none bs)
    where
      by_test : (b : Bool) → is_path p c.path ≡ b → body_count p (left bs) ≡ 0 → body_count p (cond (not b) (c ∷ left bs) (left bs)) ≡ 0
      by_test true is more = more
      by_test false is more = let off : cond {A = ℕ} (is_path p c.path) 1 0 ≡ 0 = ap (λ (t : Bool). cond {A = ℕ} t 1 0) is in omega (arith, off, more)

  pub gone_itself : (os : List OutletState) → held_count p (body_gone p os) ≡ 0
  gone_itself [] = refl
  gone_itself (y ∷ ys) = omega (arith, left_none y.bodies, gone_itself ys)

  -- bodies on other paths stay
  left_other : (q : List ℕ) → is_path q p ≡ false → (bs : List Body) → body_count q (left bs) ≡ body_count q bs
  left_other q off [] = refl
  left_other q off (c ∷ bs) = by_test (is_path p c.path) refl (left_other q off bs)
    where
      by_test : (b : Bool) → is_path p c.path ≡ b → body_count q (left bs) ≡ body_count q bs → body_count q (cond (not b) (c ∷ left bs) (left bs)) ≡ body_count q (c ∷ bs)
      by_test true is more = let zero_here : cond {A = ℕ} (is_path q c.path) 1 0 ≡ 0 = ap (λ (t : Bool). cond {A = ℕ} t 1 0) (ap (is_path q) (sym (path_is p c.path is)) ∙ off) in omega (arith, zero_here, more)
      by_test false is more = omega (arith, more)

  pub gone_other : (q : List ℕ) → is_path q p ≡ false → (os : List OutletState) → held_count q (body_gone p os) ≡ held_count q os
  gone_other q off [] = refl
  gone_other q off (y ∷ ys) = omega (arith, left_other q off y.bodies, gone_other q off ys)
