-- The bodies of an outlet in another order, or with other roles.
use Rattle.std.proofs.Common.{◌≡◌, ◌+◌, ◌<◌, ℕ, zero, suc, Bool, true, false, cond, List, [], ◌∷◌, Option, Some, refl, ap, ◌∙◌, sym, subst, map, slice_get, arith}
use Rattle.std.specs.Prelude.{◌&&◌}
use Rattle.std.specs.List.{AllByRecursion}
use Rattle.ng_base.specs.declared.path.Key.{Key}
use Rattle.ng_dom.specs.Drawing.{Look, Source, Stands, Bodies, none_stand, no_bodies, body_then, shows, show_bodies, HomedAll, HomedBodies}
use Rattle.ng_dom.specs.Editing.{group_at, picked}
use Rattle.ng_dom.specs.Nodes.{NamedForest, group_then}
use Rattle.ng_drawing.specs.Template.{Parts}
use Rattle.ng_link.specs.Arranging.{are_alike, AreAt, Rearranges}
use Rattle.ng_instances.specs.Instances.{Body, OutletState, is_path, read_bodies, bodies_from, groups_from, bodies_arranged}
use Rattle.ng_link.specs.Standing.{IsIn, AreIn, AreUndrawn, body_count, held_count}
use Rattle.ng_instances.proofs.PathIs.{path_is}
use Rattle.ng_link.proofs.PathsBelow.{same_path}
use Rattle.ng_link.proofs.ReadOff.{in_held}

-- the bodies at some places, in this order
abbrev pub bodies_get : ℕ → Bodies → Stands
bodies_get i no_bodies = none_stand
bodies_get zero (body_then us bs) = us
bodies_get (suc i) (body_then us bs) = bodies_get i bs

abbrev pub bodies_picked : List ℕ → Bodies → Bodies
bodies_picked [] bs = no_bodies
bodies_picked (i ∷ is) bs = body_then (bodies_get i bs) (bodies_picked is bs)

module _ (v : Key → Look) where
  show_get : (i : ℕ) (bs : Bodies) → shows v (bodies_get i bs) ≡ group_at i (show_bodies v bs)
  show_get i no_bodies = refl
  show_get zero (body_then us bs) = refl
  show_get (suc i) (body_then us bs) = show_get i bs

  pub show_picked : (is : List ℕ) (bs : Bodies) → show_bodies v (bodies_picked is bs) ≡ picked is (show_bodies v bs)
  show_picked [] bs = refl
  show_picked (i ∷ is) bs = ap (λ (f : NamedForest). group_then f (show_bodies v (bodies_picked is bs))) (show_get i bs) ∙ ap (group_then (group_at i (show_bodies v bs))) (show_picked is bs)

module _ (home : ℕ → Option Source) where
  homed_get : (i : ℕ) (bs : Bodies) → HomedBodies home bs → HomedAll home (bodies_get i bs)
  homed_get i no_bodies h = tt
  homed_get zero (body_then us bs) h = h.0
  homed_get (suc i) (body_then us bs) h = homed_get i bs h.1

  pub homed_picked : (is : List ℕ) (bs : Bodies) → HomedBodies home bs → HomedBodies home (bodies_picked is bs)
  homed_picked [] bs h = tt
  homed_picked (i ∷ is) bs h = (homed_get i bs h, homed_picked is bs h)

-- what is read of bodies on the same paths, and of those at some places
module _ (go : List ℕ → Stands) where
  abbrev told : List Body → List Stands
  told bs = map (λ (b : Body). go b.path) bs

  both_hold : (b c : Bool) → (b && c) ≡ true → (b ≡ true) × (c ≡ true)
  both_hold true c e = (refl, e)
  both_hold false c e = absurd (cc)

  pub alike_told : (old new : List Body) → are_alike old new ≡ true → told new ≡ told old
  alike_told [] [] e = refl
  alike_told [] (c ∷ cs) e = absurd (cc)
  alike_told (b ∷ bs) [] e = absurd (cc)
  alike_told (b ∷ bs) (c ∷ cs) e =
      let two = both_hold (is_path b.path c.path) (are_alike bs cs) e in
      ap (λ (p : List ℕ). go p ∷ told cs) (sym (path_is b.path c.path two.0)) ∙ ap (λ (xs : List Stands). go b.path ∷ xs) (alike_told bs cs two.1)

  get_told : (old : List Body) (i : ℕ) (c : Body) → slice_get old i ≡ Some c → bodies_get i (bodies_from (told old)) ≡ go c.path
  get_told [] i c e = absurd (cc)
  get_told (b ∷ bs) zero c e = let same : b ≡ c = cc in ap (λ (x : Body). go x.path) same
  get_told (b ∷ bs) (suc i) c e = get_told bs i c e

  pub picked_told : (old : List Body) (is : List ℕ) (new : List Body) → AreAt old is new → bodies_from (told new) ≡ bodies_picked is (bodies_from (told old))
  picked_told old [] [] h = refl
  picked_told old [] (b ∷ bs) h = absurd h
  picked_told old (i ∷ is) [] h = absurd h
  picked_told old (i ∷ is) (b ∷ bs) h =
      let first : go b.path ≡ bodies_get i (bodies_from (told old)) = ap go h.0.2 ∙ sym (get_told old i h.0.0 h.0.1) in
      ap (λ (ts : Stands). body_then ts (bodies_from (told bs))) first ∙ ap (body_then (bodies_get i (bodies_from (told old)))) (picked_told old is bs h.1)

  -- an outlet with other bodies
  pub arranged_group : (bs : List Body) (os : List OutletState) (o : ℕ) (x : OutletState) → slice_get os o ≡ Some x → groups_from (read_bodies go (bodies_arranged o bs os)) o ≡ bodies_from (told bs)
  arranged_group bs [] o x e = absurd (cc)
  arranged_group bs (y ∷ ys) zero x e = refl
  arranged_group bs (y ∷ ys) (suc o) x e = arranged_group bs ys o x e

  pub stood_group : (os : List OutletState) (o : ℕ) (x : OutletState) → slice_get os o ≡ Some x → groups_from (read_bodies go os) o ≡ bodies_from (told x.bodies)
  stood_group [] o x e = absurd (cc)
  stood_group (y ∷ ys) zero x e = let same : y ≡ x = cc in ap (λ (z : OutletState). bodies_from (told z.bodies)) same
  stood_group (y ∷ ys) (suc o) x e = stood_group ys o x e

  pub arranged_others : (bs : List Body) (os : List OutletState) (o n : ℕ) → (n ≡ o → ⊥) → groups_from (read_bodies go (bodies_arranged o bs os)) n ≡ groups_from (read_bodies go os) n
  arranged_others bs [] o n ne = refl
  arranged_others bs (y ∷ ys) zero zero ne = absurd (ne refl)
  arranged_others bs (y ∷ ys) zero (suc n) ne = refl
  arranged_others bs (y ∷ ys) (suc o) zero ne = refl
  arranged_others bs (y ∷ ys) (suc o) (suc n) ne = arranged_others bs ys o n (λ e. ne (ap suc e))

pub arranged_anchors : (bs : List Body) (os : List OutletState) (o : ℕ) → map (λ (x : OutletState). x.anchor) (bodies_arranged o bs os) ≡ map (λ (x : OutletState). x.anchor) os
arranged_anchors bs [] o = refl
arranged_anchors bs (y ∷ ys) zero = refl
arranged_anchors bs (y ∷ ys) (suc o) = ap (λ (ns : List ℕ). y.anchor ∷ ns) (arranged_anchors bs ys o)

pub arranged_undrawn : (serials : List ℕ) (ps : Parts) (bs : List Body) (os : List OutletState) (o : ℕ) → AreUndrawn serials ps os → AreUndrawn serials ps (bodies_arranged o bs os)
arranged_undrawn serials ps bs [] o all = tt
arranged_undrawn serials ps bs (y ∷ ys) zero all = all
arranged_undrawn serials ps bs (y ∷ ys) (suc o) all = (all.0, arranged_undrawn serials ps bs ys o all.1)

pub arranged_in : (p : List ℕ) (bs : List Body) → AllByRecursion (IsIn p) bs → (os : List OutletState) (o : ℕ) → AreIn p os → AreIn p (bodies_arranged o bs os)
arranged_in p bs ins [] o all = tt
arranged_in p bs ins (y ∷ ys) zero all = (ins, all.1)
arranged_in p bs ins (y ∷ ys) (suc o) all = (all.0, arranged_in p bs ins ys o all.1)

pub arranged_count : (q : List ℕ) (bs : List Body) (os : List OutletState) (o : ℕ) (x : OutletState) → slice_get os o ≡ Some x → body_count q bs ≡ body_count q x.bodies → held_count q (bodies_arranged o bs os) ≡ held_count q os
arranged_count q bs [] o x e same = absurd (cc)
arranged_count q bs (y ∷ ys) zero x e same =
    let one : y ≡ x = cc in
    let these : body_count q bs ≡ body_count q y.bodies = same ∙ ap (λ (z : OutletState). body_count q z.bodies) (sym one) in
    ap (λ (n : ℕ). n + held_count q ys) these
arranged_count q bs (y ∷ ys) (suc o) x e same = ap (λ (n : ℕ). body_count q y.bodies + n) (arranged_count q bs ys o x e same)

-- bodies on paths that those of an outlet have are in the same instance
all_in_outlet : (p : List ℕ) (x : OutletState) → AllByRecursion (IsIn p) x.bodies → (bs : List Body) → ((q : List ℕ) → 0 < body_count q bs → 0 < body_count q x.bodies) → AllByRecursion (IsIn p) bs
all_in_outlet p x ins [] there = tt
all_in_outlet p x ins (b ∷ bs) there =
    let one : cond {A = ℕ} (is_path b.path b.path) 1 0 ≡ 1 = ap (λ (t : Bool). cond {A = ℕ} t 1 0) (same_path b.path) in
    let here = there b.path (omega (arith, one)) in
    (in_held p b.path (x ∷ []) (ins, tt) (omega (arith, here)), all_in_outlet p x ins bs (λ q lt. there q (omega (arith, lt))))

pub rearranged_in : (p : List ℕ) (x : OutletState) (new : List Body) → Rearranges new x.bodies → AllByRecursion (IsIn p) x.bodies → AllByRecursion (IsIn p) new
rearranged_in p x new same ins = all_in_outlet p x ins new (λ q lt. let e = same q in omega (arith, e, lt))

-- an outlet that is there has bodies in its instance
pub outlet_in : (p : List ℕ) (os : List OutletState) (o : ℕ) (x : OutletState) → slice_get os o ≡ Some x → AreIn p os → AllByRecursion (IsIn p) x.bodies
outlet_in p [] o x e all = absurd (cc)
outlet_in p (y ∷ ys) zero x e all = let one : y ≡ x = cc in subst (λ (z : OutletState). AllByRecursion (IsIn p) z.bodies) one all.0
outlet_in p (y ∷ ys) (suc o) x e all = outlet_in p ys o x e all.1
