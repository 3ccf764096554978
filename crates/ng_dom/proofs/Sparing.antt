-- What is read once nodes are taken away.
use Rattle.std.proofs.Common.{◌≡◌, ℕ, Bool, true, false, List, [], ◌∷◌, Option, Some, None, refl, ap, ◌∙◌, sym, cond, subst, inl, inr, ◌<◌, arith}
use Rattle.std.specs.Prelude.{◌==◌, ◌⊎◌, IsSome, option_map}
use Rattle.std.proofs.lemmas.Bool.{eqb-true, eqb-false, eq-eqb, ne_eqb}
use Rattle.ng_dom.specs.Lists.{among}
use Rattle.ng_dom.specs.Nodes.{NamedNode, NamedForest, NamedGroups, named_text, named_comment, named_element, named_anchor, nothing_named, named_then, no_groups, group_then, name_of, names_of, group_names}
use Rattle.ng_dom.specs.Rooms.{Shape, Room, Rooms, element_shape, anchor_shape, shape_of, room_of, IsAfter, HasRoom, ReadsInside, ReadsIn, ReadsGroups, reshaped}
use Rattle.ng_dom.specs.Removal.{all_of, is_parent, is_under, has_parent, IsDoomed, Takes, all_but, each_but, shape_without, room_without, top_without, without, without_inside, without_groups, Spares, SparesInside, SparesGroups, AreGone, GoneInside, GoneGroups, IsThere}
use mathlib.Core.Path.{fun_ext}
use Rattle.ng_dom.proofs.Removing.{among-left, among-right}
use Rattle.ng_dom.proofs.Groups.{apart_inside}

-- what holds none of the names that are taken stays
module _ (names : List ℕ) (r s : Rooms) (takes : Takes names r s) where
  stays : (p : Option ℕ) (x : NamedNode) → among (name_of x) names ≡ false → IsThere s p → HasRoom r p x → s (name_of x) ≡ Some (room_of p x)
  stays p x apart there has = by_each (takes.each (name_of x))
    where
      by_parent : (o : Option ℕ) → IsThere s o → (m : ℕ) → is_parent m o ≡ true → s m ≡ None → ⊥
      by_parent None t m u gone = cc
      by_parent (Some q) t m u gone =
          let same : q ≡ m = eqb-true q m u in
          let none : s q ≡ None = ap s same ∙ gone in
          let live : IsSome {T = Room} None = rw none at t in
          cc

      by_each : (s (name_of x) ≡ r (name_of x)) ⊎ ((s (name_of x) ≡ None) × IsDoomed names r s (name_of x)) → s (name_of x) ≡ Some (room_of p x)
      by_each (inl same) = same ∙ has.1
      by_each (inr (a, inl e)) = absurd (let two : true ≡ false = sym e ∙ apart in cc)
      by_each (inr (a, inr h)) = absurd (by_parent p there h.parent (ap (has_parent h.parent) (sym has.1) ∙ h.under) h.gone)

  still_there : (p : Option ℕ) (x : NamedNode) → s (name_of x) ≡ Some (room_of p x) → IsThere s (Some (name_of x))
  still_there p x e = rw e refl

  mutual
    spared_inside : (p : Option ℕ) (x : NamedNode) → s (name_of x) ≡ Some (room_of p x) → SparesInside names x → ReadsInside r x → ReadsInside s x
    spared_inside p (named_text n t) e sp h = tt
    spared_inside p (named_comment n t) e sp h = tt
    spared_inside p (named_element n m ats f) e sp h = spared (Some n) f (still_there p (named_element n m ats f) e) sp h
    spared_inside p (named_anchor n gs) e sp h = groups_spared (Some n) gs (still_there p (named_anchor n gs) e) sp h

    pub spared : (p : Option ℕ) (f : NamedForest) → IsThere s p → Spares names f → ReadsIn r p f → ReadsIn s p f
    spared p nothing_named there sp h = tt
    spared p (named_then x f) there sp h =
        let e = stays p x sp.0 there h.0 in
        ((h.0.0, e), spared_inside p x e sp.1 h.1, spared p f there sp.2 h.2)

    pub groups_spared : (p : Option ℕ) (gs : NamedGroups) → IsThere s p → SparesGroups names gs → ReadsGroups r p gs → ReadsGroups s p gs
    groups_spared p no_groups there sp h = tt
    groups_spared p (group_then f gs) there sp h = (spared p f there sp.0 h.0, groups_spared p gs there sp.1 h.1)

  -- a node that is gone is gone with all that it held
  under_it : (m : ℕ) (x : NamedNode) → HasRoom r (Some m) x → is_under r m (name_of x) ≡ true
  under_it m x has = ap (has_parent m) has.1 ∙ eq-eqb m m refl

  mutual
    pub all_gone : (p : Option ℕ) (x : NamedNode) → HasRoom r p x → ReadsInside r x → s (name_of x) ≡ None → GoneInside s x
    all_gone p (named_text n t) has h e = tt
    all_gone p (named_comment n t) has h e = tt
    all_gone p (named_element n m ats f) has h e =
        kids_gone n f (λ q among. takes.closed n q (room_of p (named_element n m ats f)) has.1 e among) h
    all_gone p (named_anchor n gs) has h e =
        groups_gone n gs (λ q among. takes.closed n q (room_of p (named_anchor n gs)) has.1 e among) h

    kids_gone : (n : ℕ) (f : NamedForest) → ((q : ℕ) → among q (names_of f) ≡ true → is_under r n q ≡ true → s q ≡ None) → ReadsIn r (Some n) f → AreGone s f
    kids_gone n nothing_named all h = tt
    kids_gone n (named_then x f) all h =
        let e = all (name_of x) (rw (eq-eqb (name_of x) (name_of x) refl) refl) (under_it n x h.0) in
        (e, all_gone (Some n) x h.0 h.1 e, kids_gone n f (λ q a. all q (among-right q (name_of x ∷ []) (names_of f) a)) h.2)

    groups_gone : (n : ℕ) (gs : NamedGroups) → ((q : ℕ) → among q (all_of (group_names gs)) ≡ true → is_under r n q ≡ true → s q ≡ None) → ReadsGroups r (Some n) gs → GoneGroups s gs
    groups_gone n no_groups all h = tt
    groups_gone n (group_then f gs) all h = (
      kids_gone n f (λ q a. all q (among-left q (names_of f) (all_of (group_names gs)) a)) h.0,
      groups_gone n gs (λ q a. all q (among-right q (names_of f) (all_of (group_names gs)) a)) h.1,
    )

  -- the nodes of these names are gone
  pub roots_gone : (p : Option ℕ) (f : NamedForest) → ((q : ℕ) → among q (names_of f) ≡ true → s q ≡ None) → ReadsIn r p f → AreGone s f
  roots_gone p nothing_named all h = tt
  roots_gone p (named_then x f) all h =
      let e = all (name_of x) (rw (eq-eqb (name_of x) (name_of x) refl) refl) in
      (e, all_gone p x h.0 h.1 e, roots_gone p f (λ q a. all q (among-right q (name_of x ∷ []) (names_of f) a)) h.2)

name-without : (n : ℕ) (x : NamedNode) → name_of (without_inside n x) ≡ name_of x
name-without n (named_text m t) = refl
name-without n (named_comment m t) = refl
name-without n (named_element m e ats f) = refl
name-without n (named_anchor m gs) = refl

-- what is left when a node is taken out holds it no more
spares_then : (b : Bool) (n : ℕ) (x : NamedNode) (f : NamedForest) → (name_of x == n) ≡ b → SparesInside (n ∷ []) (without_inside n x) → Spares (n ∷ []) (without n f)
    → Spares (n ∷ []) (cond b (without n f) (named_then (without_inside n x) (without n f)))
spares_then true n x f t h k = k
spares_then false n x f t h k = (rw (name-without n x, ne_eqb n (name_of x) (λ e. eqb-false (name_of x) n t (sym e))) refl, h, k)

mutual
  spares_inside : (n : ℕ) (x : NamedNode) → SparesInside (n ∷ []) (without_inside n x)
  spares_inside n (named_text m t) = tt
  spares_inside n (named_comment m t) = tt
  spares_inside n (named_element m e ats f) = spares_without n f
  spares_inside n (named_anchor m gs) = spares_groups n gs

  pub spares_without : (n : ℕ) (f : NamedForest) → Spares (n ∷ []) (without n f)
  spares_without n nothing_named = tt
  spares_without n (named_then x f) = spares_then (name_of x == n) n x f refl (spares_inside n x) (spares_without n f)

  spares_groups : (n : ℕ) (gs : NamedGroups) → SparesGroups (n ∷ []) (without_groups n gs)
  spares_groups n no_groups = tt
  spares_groups n (group_then f gs) = (spares_without n f, spares_groups n gs)

names_by : (b : Bool) (n : ℕ) (x : NamedNode) (f : NamedForest) → names_of (without n f) ≡ all_but n (names_of f)
    → names_of (cond b (without n f) (named_then (without_inside n x) (without n f))) ≡ cond (cond b false true) (name_of x ∷ all_but n (names_of f)) (all_but n (names_of f))
names_by true n x f h = h
names_by false n x f h = ap (λ (m : ℕ). m ∷ names_of (without n f)) (name-without n x) ∙ ap (λ (ms : List ℕ). name_of x ∷ ms) h

names-without : (n : ℕ) (f : NamedForest) → names_of (without n f) ≡ all_but n (names_of f)
names-without n nothing_named = refl
names-without n (named_then x f) = names_by (name_of x == n) n x f (names-without n f)

groups-without : (n : ℕ) (gs : NamedGroups) → group_names (without_groups n gs) ≡ each_but n (group_names gs)
groups-without n no_groups = refl
groups-without n (group_then f gs) = ap (λ (m : List ℕ). m ∷ group_names (without_groups n gs)) (names-without n f) ∙ ap (λ (ms : List (List ℕ)). all_but n (names_of f) ∷ ms) (groups-without n gs)

shape-without : (n : ℕ) (x : NamedNode) → shape_of (without_inside n x) ≡ shape_without n (shape_of x)
shape-without n (named_text m t) = refl
shape-without n (named_comment m t) = refl
shape-without n (named_element m e ats f) = ap (element_shape e ats) (names-without n f)
shape-without n (named_anchor m gs) = ap anchor_shape (groups-without n gs)

-- a name is taken out where its parent holds it
module _ (r t : Rooms) (n : ℕ) (o : Option ℕ) (here : option_map (λ (x : Room). x.parent) (r n) ≡ Some o) (rooms : (q : ℕ) → t q ≡ room_without o n r q) where
  -- a node under another parent is another node
  other_by : (m : ℕ) (x : NamedNode) → HasRoom r (Some m) x → (o ≡ Some m → ⊥) → (name_of x == n) ≡ true → ⊥
  other_by m x has apart e =
      let two : Some (Some m) ≡ Some o = sym (ap (option_map (λ (y : Room). y.parent)) has.1) ∙ (ap (λ (q : ℕ). option_map (λ (y : Room). y.parent) (r q)) (eqb-true (name_of x) n e) ∙ here) in
      apart (cc)

  keep_by : (b : Bool) (m : ℕ) (x : NamedNode) (ks : List ℕ) → ((name_of x == n) ≡ true → ⊥) → (name_of x == n) ≡ b → all_but n ks ≡ ks → cond (cond b false true) (name_of x ∷ all_but n ks) (all_but n ks) ≡ name_of x ∷ ks
  keep_by true m x ks other e h = absurd (other e)
  keep_by false m x ks other e h = ap (λ (ms : List ℕ). name_of x ∷ ms) h

  names_kept : (m : ℕ) (f : NamedForest) → (o ≡ Some m → ⊥) → ReadsIn r (Some m) f → all_but n (names_of f) ≡ names_of f
  names_kept m nothing_named apart h = refl
  names_kept m (named_then x f) apart h = keep_by (name_of x == n) m x (names_of f) (other_by m x h.0 apart) refl (names_kept m f apart h.2)

  groups_kept : (m : ℕ) (gs : NamedGroups) → (o ≡ Some m → ⊥) → ReadsGroups r (Some m) gs → each_but n (group_names gs) ≡ group_names gs
  groups_kept m no_groups apart h = refl
  groups_kept m (group_then f gs) apart h = ap (λ (ns : List ℕ). ns ∷ each_but n (group_names gs)) (names_kept m f apart h.0) ∙ ap (λ (ms : List (List ℕ)). names_of f ∷ ms) (groups_kept m gs apart h.1)

  shape_kept_by : (x : NamedNode) → (o ≡ Some (name_of x) → ⊥) → ReadsInside r x → shape_without n (shape_of x) ≡ shape_of x
  shape_kept_by (named_text m t) apart h = refl
  shape_kept_by (named_comment m t) apart h = refl
  shape_kept_by (named_element m e ats f) apart h = ap (element_shape e ats) (names_kept m f apart h)
  shape_kept_by (named_anchor m gs) apart h = ap anchor_shape (groups_kept m gs apart h)

  cut_by : (p : Option ℕ) → ((q : ℕ) → t q ≡ room_without p n r q) → (q : ℕ) → (t q ≡ option_map (reshaped (shape_without n)) (r q)) ⊎ ((t q ≡ r q) × (p ≡ Some q → ⊥))
  cut_by None is q = inr (is q, λ e. cc)
  cut_by (Some m) is q = by_test (q == m) refl
    where
      by_test : (b : Bool) → (q == m) ≡ b → (t q ≡ option_map (reshaped (shape_without n)) (r q)) ⊎ ((t q ≡ r q) × (Some m ≡ Some q → ⊥))
      by_test true e = inl (is q ∙ rw e refl)
      by_test false e = inr (is q ∙ rw e refl, λ same. eqb-false q m e (let one : m ≡ q = cc in sym one))

  cut_room : (p : Option ℕ) (x : NamedNode) → HasRoom r p x → ReadsInside r x → t (name_of x) ≡ Some (room_of p (without_inside n x))
  cut_room p x has h = by_cut (cut_by o rooms (name_of x))
    where
      by_cut : (t (name_of x) ≡ option_map (reshaped (shape_without n)) (r (name_of x))) ⊎ ((t (name_of x) ≡ r (name_of x)) × (o ≡ Some (name_of x) → ⊥)) → t (name_of x) ≡ Some (room_of p (without_inside n x))
      by_cut (inl e) = e ∙ (ap (option_map (reshaped (shape_without n))) has.1 ∙ ap (λ (y : Shape). Some (record { parent = p; shape = y })) (sym (shape-without n x)))
      by_cut (inr h2) = h2.0 ∙ (has.1 ∙ ap (λ (y : Shape). Some (record { parent = p; shape = y })) (sym (shape-without n x ∙ shape_kept_by x h2.1 h)))

  cut_then : (b : Bool) (p : Option ℕ) (x : NamedNode) (f : NamedForest) → ReadsIn r p (named_then x f) → ReadsInside t (without_inside n x) → ReadsIn t p (without n f)
      → ReadsIn t p (cond b (without n f) (named_then (without_inside n x) (without n f)))
  cut_then true p x f h inside rest = rest
  cut_then false p x f h inside rest = ((rw (name-without n x) h.0.0, rw (name-without n x) (cut_room p x h.0 h.1)), inside, rest)

  mutual
    inside_cut : (x : NamedNode) → ReadsInside r x → ReadsInside t (without_inside n x)
    inside_cut (named_text m u) h = tt
    inside_cut (named_comment m u) h = tt
    inside_cut (named_element m e ats f) h = cut (Some m) f h
    inside_cut (named_anchor m gs) h = groups_cut (Some m) gs h

    pub cut : (p : Option ℕ) (f : NamedForest) → ReadsIn r p f → ReadsIn t p (without n f)
    cut p nothing_named h = tt
    cut p (named_then x f) h = cut_then (name_of x == n) p x f h (inside_cut x h.1) (cut p f h.2)

    groups_cut : (p : Option ℕ) (gs : NamedGroups) → ReadsGroups r p gs → ReadsGroups t p (without_groups n gs)
    groups_cut p no_groups h = tt
    groups_cut p (group_then f gs) h = (cut p f h.0, groups_cut p gs h.1)

  -- what a later node than its parent holds is read as before
  pub below_cut : (p : Option ℕ) (x : NamedNode) → name_of x ≡ n → HasRoom r p x → ReadsInside r x → HasRoom t p x × ReadsInside t x
  below_cut p x e has h = by_parent o rooms (cut_by o rooms (name_of x)) refl
    where
      same : option_map (λ (y : Room). y.parent) (r n) ≡ Some p
      same = ap (λ (q : ℕ). option_map (λ (y : Room). y.parent) (r q)) (sym e) ∙ ap (option_map (λ (y : Room). y.parent)) has.1

      above : (m : ℕ) → o ≡ Some m → m < name_of x
      above m is = (let two : Some p ≡ Some o = sym same ∙ here in let one : p ≡ Some m = cc in let after : IsAfter p (name_of x) = has.0 in (rw one at after))

      by_parent : (w : Option ℕ) → ((q : ℕ) → t q ≡ room_without w n r q) → (t (name_of x) ≡ option_map (reshaped (shape_without n)) (r (name_of x))) ⊎ ((t (name_of x) ≡ r (name_of x)) × (o ≡ Some (name_of x) → ⊥)) → o ≡ w → HasRoom t p x × ReadsInside t x
      by_parent None is c w = let all : r ≡ t = fun_ext (λ q. sym (is q)) in (let P : Rooms → Type 0 = λ v. HasRoom v p x × ReadsInside v x in subst P all (has, h))
      by_parent (Some m) is c w =
          let lower = above m w in
          ((has.0, is (name_of x) ∙ rw (ne_eqb (name_of x) m (λ q. omega arith)) has.1), apart_inside r t m (shape_without n) is x (omega arith) h)

-- a name that has no room isn't read
absent_then : (b : Bool) (r : Rooms) (n : ℕ) (p : Option ℕ) (x : NamedNode) (f : NamedForest) → (name_of x == n) ≡ b → r n ≡ None → HasRoom r p x → without_inside n x ≡ x → without n f ≡ f
    → cond b (without n f) (named_then (without_inside n x) (without n f)) ≡ named_then x f
absent_then true r n p x f t none has e h = absurd (let two : Some (room_of p x) ≡ None = sym has.1 ∙ (ap r (eqb-true (name_of x) n t) ∙ none) in cc)
absent_then false r n p x f t none has e h = ap (λ (y : NamedNode). named_then y (without n f)) e ∙ ap (named_then x) h

module _ (r : Rooms) (n : ℕ) (none : r n ≡ None) where
  mutual
    absent_inside : (x : NamedNode) → ReadsInside r x → without_inside n x ≡ x
    absent_inside (named_text m u) h = refl
    absent_inside (named_comment m u) h = refl
    absent_inside (named_element m e ats f) h = ap (named_element m e ats) (without_absent (Some m) f h)
    absent_inside (named_anchor m gs) h = ap (named_anchor m) (groups_absent (Some m) gs h)

    pub without_absent : (p : Option ℕ) (f : NamedForest) → ReadsIn r p f → without n f ≡ f
    without_absent p nothing_named h = refl
    without_absent p (named_then x f) h = absent_then (name_of x == n) r n p x f refl none h.0 (absent_inside x h.1) (without_absent p f h.2)

    groups_absent : (p : Option ℕ) (gs : NamedGroups) → ReadsGroups r p gs → without_groups n gs ≡ gs
    groups_absent p no_groups h = refl
    groups_absent p (group_then f gs) h = ap (λ (g : NamedForest). group_then g (without_groups n gs)) (without_absent p f h.0) ∙ ap (group_then f) (groups_absent p gs h.1)

-- a node that is live is taken away
module _ (r t s : Rooms) (n : ℕ) (o : Option ℕ) (here : option_map (λ (x : Room). x.parent) (r n) ≡ Some o) (rooms : (q : ℕ) → t q ≡ room_without o n r q) (takes : Takes (n ∷ []) t s) where
  pub removed_reads : (p : Option ℕ) (f : NamedForest) → ReadsIn r p f → IsThere s p → ReadsIn s p (without n f)
  removed_reads p f h there = spared (n ∷ []) t s takes p (without n f) there (spares_without n f) (cut r t n o here rooms p f h)

  pub removed_gone : (p : Option ℕ) (x : NamedNode) → name_of x ≡ n → HasRoom r p x → ReadsInside r x → AreGone s (named_then x nothing_named)
  removed_gone p x e has h =
      let both = below_cut r t n o here rooms p x e has h in
      roots_gone (n ∷ []) t s takes p (named_then x nothing_named) (λ q a. takes.gone q (let P : ℕ → Type 0 = λ m. among q (m ∷ []) ≡ true in subst P e a)) (both.0, both.1, tt)

-- the names at the top without one
top_other : (r : Rooms) (n m : ℕ) → option_map (λ (x : Room). x.parent) (r n) ≡ Some (Some m) → (x : NamedNode) → HasRoom r None x → (name_of x == n) ≡ true → ⊥
top_other r n m here x has e =
    let two : Some None ≡ Some (Some m) = sym (ap (option_map (λ (y : Room). y.parent)) has.1) ∙ (ap (λ (q : ℕ). option_map (λ (y : Room). y.parent) (r q)) (eqb-true (name_of x) n e) ∙ here) in
    let one : None ≡ Some m = cc in
    cc

top_by : (b : Bool) (n : ℕ) (x : NamedNode) (ks : List ℕ) → ((name_of x == n) ≡ true → ⊥) → (name_of x == n) ≡ b → all_but n ks ≡ ks → cond (cond b false true) (name_of x ∷ all_but n ks) (all_but n ks) ≡ name_of x ∷ ks
top_by true n x ks other e k = absurd (other e)
top_by false n x ks other e k = ap (λ (ms : List ℕ). name_of x ∷ ms) k

top_kept : (r : Rooms) (n m : ℕ) → option_map (λ (x : Room). x.parent) (r n) ≡ Some (Some m) → (f : NamedForest) → ReadsIn r None f → all_but n (names_of f) ≡ names_of f
top_kept r n m here nothing_named k = refl
top_kept r n m here (named_then x f) k = top_by (name_of x == n) n x (names_of f) (top_other r n m here x k.0) refl (top_kept r n m here f k.2)

pub top_cut : (n : ℕ) (o : Option ℕ) (r : Rooms) (old new : List ℕ) (f : NamedForest) → option_map (λ (x : Room). x.parent) (r n) ≡ Some o → old ≡ names_of f → ReadsIn r None f → new ≡ top_without o n old → new ≡ names_of (without n f)
top_cut n None r old new f here was h is = is ∙ (ap (all_but n) was ∙ sym (names-without n f))
top_cut n (Some m) r old new f here was h is = is ∙ (was ∙ sym (names-without n f ∙ top_kept r n m here f h))
