-- The nodes of a group are taken away.
use Rattle.std.proofs.Common.{◌≡◌, ℕ, zero, suc, Bool, true, false, List, [], ◌∷◌, Option, Some, refl, ap, ◌∙◌, sym, cond, arith}
use Rattle.std.specs.Prelude.{◌==◌, option_map}
use Rattle.std.proofs.lemmas.Bool.{eqb-true, eqb-false, eq-eqb}
use Rattle.ng_dom.specs.Lists.{among, list_at, without_at, emptied_at}
use Rattle.ng_dom.specs.Nodes.{NamedNode, NamedForest, NamedGroups, named_text, named_comment, named_element, named_anchor, nothing_named, named_then, no_groups, group_then, name_of, names_of, group_names}
use Rattle.ng_dom.specs.Editing.{changed, changed_in, changed_groups, with_groups}
use Rattle.ng_dom.specs.Rooms.{Room, Rooms, room_of, HasRoom, ReadsInside, ReadsIn, ReadsGroups, room_changed, shape_with_groups}
use Rattle.ng_dom.specs.Removal.{all_of, groups_in, group_emptied, Takes, Spares, SparesInside, SparesGroups, AreGone, IsThere, IsApartFromOthers}
use Rattle.ng_dom.proofs.Reading.{same_name}
use Rattle.ng_dom.proofs.Groups.{name-groups, groups_read, reads_apart}
use Rattle.ng_dom.proofs.Removing.{either, among-append, among-left, among-right}
use Rattle.ng_dom.proofs.Sparing.{spared, roots_gone}

names-emptied : (i : ℕ) (gs : NamedGroups) → group_names (group_emptied i gs) ≡ emptied_at i (group_names gs)
names-emptied i no_groups = refl
names-emptied zero (group_then g gs) = refl
names-emptied (suc i) (group_then g gs) = ap (λ (ns : List (List ℕ)). names_of g ∷ ns) (names-emptied i gs)

reads-emptied : (s : Rooms) (p : Option ℕ) (i : ℕ) (gs : NamedGroups) → ReadsGroups s p gs → ReadsGroups s p (group_emptied i gs)
reads-emptied s p i no_groups t = tt
reads-emptied s p zero (group_then g gs) t = (tt, t.1)
reads-emptied s p (suc i) (group_then g gs) t = (t.0, reads-emptied s p i gs t.1)

-- the parent of each node of a forest
parent_by : (b : Bool) (r : Rooms) (p : Option ℕ) (q : ℕ) (x : NamedNode) (ks : List ℕ) → (name_of x == q) ≡ b → HasRoom r p x → (among q ks ≡ true → option_map (λ (y : Room). y.parent) (r q) ≡ Some p)
    → cond b true (among q ks) ≡ true → option_map (λ (y : Room). y.parent) (r q) ≡ Some p
parent_by true r p q x ks t has h e = ap (λ (m : ℕ). option_map (λ (y : Room). y.parent) (r m)) (sym (eqb-true (name_of x) q t)) ∙ ap (option_map (λ (y : Room). y.parent)) has.1
parent_by false r p q x ks t has h e = h e

child_parent : (r : Rooms) (p : Option ℕ) (f : NamedForest) → ReadsIn r p f → (q : ℕ) → among q (names_of f) ≡ true → option_map (λ (y : Room). y.parent) (r q) ≡ Some p
child_parent r p nothing_named h q e = absurd (cc)
child_parent r p (named_then x f) h q e = parent_by (name_of x == q) r p q x (names_of f) refl h.0 (child_parent r p f h.2 q) e

flipped : (b c : Bool) → (b ≡ true → c ≡ false) → c ≡ true → b ≡ false
flipped true c h e = absurd (let two : true ≡ false = sym e ∙ h refl in cc)
flipped false c h e = refl

module _ (r : Rooms) (a i : ℕ) (names : List ℕ) (under : (q : ℕ) → among q names ≡ true → option_map (λ (y : Room). y.parent) (r q) ≡ Some (Some a))
    (listed : names ≡ list_at i (groups_in (r a))) (apart : IsApartFromOthers i (groups_in (r a))) where
  abbrev emptying : NamedNode → NamedNode
  emptying = with_groups (group_emptied i)

  name-emptying : (x : NamedNode) → name_of (changed a emptying x) ≡ name_of x
  name-emptying x = same_name a emptying (name-groups (group_emptied i) (emptied_at i) (names-emptied i)) x

  elsewhere_by : (b : Bool) (p : Option ℕ) (q : ℕ) → (p ≡ Some a → ⊥) → option_map (λ (y : Room). y.parent) (r q) ≡ Some p → among q names ≡ b → among q names ≡ false
  elsewhere_by true p q ne e t = absurd (let two : Some p ≡ Some (Some a) = sym e ∙ under q t in ne (cc))
  elsewhere_by false p q ne e t = t

  elsewhere : (p : Option ℕ) (f : NamedForest) → (p ≡ Some a → ⊥) → ReadsIn r p f → (q : ℕ) → among q (names_of f) ≡ true → among q names ≡ false
  elsewhere p f ne h q e = elsewhere_by (among q names) p q ne (child_parent r p f h q e) refl

  -- the children of an element
  kids_by : (b : Bool) (p : Option ℕ) (m : ℕ) (e : List ℕ) (ats : List (List ℕ × List ℕ)) (f : NamedForest) → (m == a) ≡ b → HasRoom r p (named_element m e ats f) → ReadsIn r (Some m) f → (q : ℕ) → among q (names_of f) ≡ true → among q names ≡ false
  kids_by true p m e ats f t has h q k =
      let here : r a ≡ Some (room_of p (named_element m e ats f)) = ap r (sym (eqb-true m a t)) ∙ has.1 in
      let none : names ≡ [] = listed ∙ ap (λ (o : Option Room). list_at i (groups_in o)) here in
      ap (among q) none
  kids_by false p m e ats f t has h q k = elsewhere (Some m) f (λ w. eqb-false m a t (let one : m ≡ a = cc in one)) h q k

  element_by : (b : Bool) (m : ℕ) (e : List ℕ) (ats : List (List ℕ × List ℕ)) (f : NamedForest) → Spares names f → SparesInside names (cond b (named_element m e ats f) (named_element m e ats f))
  element_by true m e ats f h = h
  element_by false m e ats f h = h

  text_by : (b : Bool) (m : ℕ) (t : List ℕ) → SparesInside names (cond b (named_text m t) (named_text m t))
  text_by true m t = tt
  text_by false m t = tt

  comment_by : (b : Bool) (m : ℕ) (t : List ℕ) → SparesInside names (cond b (named_comment m t) (named_comment m t))
  comment_by true m t = tt
  comment_by false m t = tt

  -- the groups of another anchor
  groups_by : (m : ℕ) (gs : NamedGroups) → (Some m ≡ Some a → ⊥) → ReadsGroups r (Some m) gs → (q : ℕ) → among q (all_of (group_names gs)) ≡ true → among q names ≡ false
  groups_by m gs ne h q k = elsewhere_by (among q names) (Some m) q ne (in_groups gs h k) refl
    where
      in_groups : (gs : NamedGroups) → ReadsGroups r (Some m) gs → among q (all_of (group_names gs)) ≡ true → option_map (λ (y : Room). y.parent) (r q) ≡ Some (Some m)
      in_groups no_groups h k = absurd (cc)
      in_groups (group_then f gs) h k = either (child_parent r (Some m) f h.0 q) (in_groups gs h.1) (among-append q (names_of f) (all_of (group_names gs)) k)

  -- the other groups of the anchor
  others_by : (p : Option ℕ) (m : ℕ) (gs : NamedGroups) → m ≡ a → HasRoom r p (named_anchor m gs) → (q : ℕ) → among q (all_of (without_at i (group_names gs))) ≡ true → among q names ≡ false
  others_by p m gs e has q k =
      let here : r a ≡ Some (room_of p (named_anchor m gs)) = ap r (sym e) ∙ has.1 in
      let same : names ≡ list_at i (group_names gs) = listed ∙ ap (λ (o : Option Room). list_at i (groups_in o)) here in
      flipped (among q names) (among q (all_of (without_at i (group_names gs))))
      (λ t. sym (ap (λ (o : Option Room). among q (all_of (without_at i (groups_in o)))) here) ∙ apart q (sym (ap (among q) listed) ∙ t)) k

  anchor_by : (b : Bool) (m : ℕ) (gs : NamedGroups) → (m == a) ≡ b → (m ≡ a → SparesGroups names (group_emptied i gs)) → ((Some m ≡ Some a → ⊥) → SparesGroups names gs) → SparesInside names (cond b (named_anchor m (group_emptied i gs)) (named_anchor m gs))
  anchor_by true m gs t h k = h (eqb-true m a t)
  anchor_by false m gs t h k = k (λ w. eqb-false m a t (let one : m ≡ a = cc in one))

  mutual
    spares_x : (p : Option ℕ) (x : NamedNode) → HasRoom r p x → ReadsInside r x → SparesInside names (changed a emptying x)
    spares_x p (named_text m t) has h = text_by (m == a) m t
    spares_x p (named_comment m t) has h = comment_by (m == a) m t
    spares_x p (named_element m e ats f) has h = element_by (m == a) m e ats (changed_in a emptying f) (spares_in (Some m) f (kids_by (m == a) p m e ats f refl has h) h)
    spares_x p (named_anchor m gs) has h =
        anchor_by (m == a) m (changed_groups a emptying gs) refl
        (λ e. spares_emptied m i gs (others_by p m gs e has) h)
        (λ ne. spares_gs m gs (groups_by m gs ne h) h)

    pub spares_in : (p : Option ℕ) (f : NamedForest) → ((q : ℕ) → among q (names_of f) ≡ true → among q names ≡ false) → ReadsIn r p f → Spares names (changed_in a emptying f)
    spares_in p nothing_named all h = tt
    spares_in p (named_then x f) all h =
        (rw (name-emptying x) (all (name_of x) (rw (eq-eqb (name_of x) (name_of x) refl) refl)), spares_x p x h.0 h.1, spares_in p f (λ q k. all q (among-right q (name_of x ∷ []) (names_of f) k)) h.2)

    spares_gs : (m : ℕ) (gs : NamedGroups) → ((q : ℕ) → among q (all_of (group_names gs)) ≡ true → among q names ≡ false) → ReadsGroups r (Some m) gs → SparesGroups names (changed_groups a emptying gs)
    spares_gs m no_groups all h = tt
    spares_gs m (group_then f gs) all h =
        (spares_in (Some m) f (λ q k. all q (among-left q (names_of f) (all_of (group_names gs)) k)) h.0, spares_gs m gs (λ q k. all q (among-right q (names_of f) (all_of (group_names gs)) k)) h.1)

    spares_emptied : (m j : ℕ) (gs : NamedGroups) → ((q : ℕ) → among q (all_of (without_at j (group_names gs))) ≡ true → among q names ≡ false) → ReadsGroups r (Some m) gs → SparesGroups names (group_emptied j (changed_groups a emptying gs))
    spares_emptied m j no_groups all h = tt
    spares_emptied m zero (group_then f gs) all h = (tt, spares_gs m gs all h.1)
    spares_emptied m (suc j) (group_then f gs) all h = (
      spares_in (Some m) f (λ q k. all q (among-left q (names_of f) (all_of (without_at j (group_names gs))) k)) h.0,
      spares_emptied m j gs (λ q k. all q (among-right q (names_of f) (all_of (without_at j (group_names gs))) k)) h.1,
    )

module _ (r t s : Rooms) (a i : ℕ) (names : List ℕ) (piece : NamedForest) (e : names_of piece ≡ names) (listed : names ≡ list_at i (groups_in (r a))) (reads : ReadsIn r (Some a) piece)
    (rooms : (q : ℕ) → t q ≡ room_changed a (shape_with_groups (emptied_at i)) r q) (takes : Takes names t s) where
  pub group_gone : AreGone s piece
  group_gone = roots_gone names t s takes (Some a) piece (λ q k. takes.gone q (ap (among q) (sym e) ∙ k)) (reads_apart r t a (shape_with_groups (emptied_at i)) rooms a piece (omega arith) reads)

  pub emptied_reads : IsApartFromOthers i (groups_in (r a)) → (p : Option ℕ) (f : NamedForest) → (p ≡ Some a → ⊥) → ReadsIn r p f → IsThere s p → ReadsIn s p (changed_in a (with_groups (group_emptied i)) f)
  emptied_reads apart p f ne h there =
      let under : (q : ℕ) → among q names ≡ true → option_map (λ (y : Room). y.parent) (r q) ≡ Some (Some a) = λ q k. child_parent r (Some a) piece reads q (ap (among q) e ∙ k) in
      spared names t s takes p (changed_in a (with_groups (group_emptied i)) f) there (spares_in r a i names under listed apart p f (elsewhere r a i names under listed apart p f ne h) h)
      (groups_read (group_emptied i) (emptied_at i) (names-emptied i) r t a rooms (reads-emptied t (Some a) i) p f h)
