-- A node that is found stands in the document.
use Rattle.std.proofs.Common.{◌≡◌, ℕ, zero, suc, Bool, true, false, List, [], ◌∷◌, ◌++◌, Option, Some, None, refl, sym, cond}
use Rattle.std.specs.Prelude.{◌==◌, option_map}
use Rattle.std.proofs.lemmas.Bool.{eqb-false, ne_eqb}
use Rattle.ng_dom.specs.Nodes.{NamedNode, NamedForest, NamedGroups, named_text, named_comment, named_element, named_anchor, nothing_named, named_then, no_groups, group_then, name_of}
use Rattle.ng_dom.specs.Lists.{among}
use Rattle.ng_dom.specs.Removal.{SparesInside, Spares, SparesGroups}
use Rattle.ng_dom.specs.Asked.{has_id, node_with_id, first_with_id, group_with_id, first_of_two}
use Rattle.ng_dom.specs.Printed.{level_node, level, level_groups, inner, nth_of, went}
use Rattle.ng_dom.specs.Paths.{under, or_from, way_node, way, way_groups, StandsIn}
use Rattle.ng_dom.specs.Laws.{PlacesStand, FoundStand}
use Rattle.ng_dom.specs.declared.paths.Way.{Way}
use Rattle.ng_dom.specs.declared.paths.Way.TheVariants.{Reached, Passed}

other_name : (b : Bool) (n i j m : ℕ) (w : Way) → (m == n) ≡ b → cond b (Reached (i ∷ [])) w ≡ Passed j → (among m (n ∷ []) ≡ false) × (w ≡ Passed j)
other_name true n i j m w is e = absurd (cc)
other_name false n i j m w is e = (rw (ne_eqb n m (λ h. eqb-false m n is (sym h))) refl, e)

under_passed : (i j : ℕ) (w : Way) (X : Type 0) → ((k : ℕ) → w ≡ Passed k → X) → under i w ≡ Passed j → X
under_passed i j (Reached p) X h e = absurd (cc)
under_passed i j (Passed k) X h e = h k refl

both_passed : (j : ℕ) (w : Way) (g : ℕ → Way) (X Y : Type 0) → ((k : ℕ) → w ≡ Passed k → X) → ((k : ℕ) → g k ≡ Passed j → Y) → or_from w g ≡ Passed j → X × Y
both_passed j (Reached p) g X Y first second e = absurd (cc)
both_passed j (Passed k) g X Y first second e = (first k refl, second k e)

-- where all nodes are passed, none has the name
mutual
  node_spared : (n i : ℕ) (x : NamedNode) (j : ℕ) → way_node n i x ≡ Passed j → (among (name_of x) (n ∷ []) ≡ false) × SparesInside (n ∷ []) x
  node_spared n i (named_text m t) j e = let o = other_name (m == n) n i j m (Passed (suc i)) refl e in (o.0, tt)
  node_spared n i (named_comment m t) j e = let o = other_name (m == n) n i j m (Passed (suc i)) refl e in (o.0, tt)
  node_spared n i (named_element m t ats f) j e =
      let o = other_name (m == n) n i j m (under i (way n 0 f)) refl e in
      (o.0, under_passed i j (way n 0 f) (Spares (n ∷ []) f) (λ k h. all_spared n 0 f k h) o.1)
  node_spared n i (named_anchor m gs) j e =
      let o = other_name (m == n) n i j m (way_groups n (suc i) gs) refl e in
      (o.0, groups_spared n (suc i) gs j o.1)

  all_spared : (n i : ℕ) (f : NamedForest) (j : ℕ) → way n i f ≡ Passed j → Spares (n ∷ []) f
  all_spared n i nothing_named j e = tt
  all_spared n i (named_then x f) j e =
      let both = both_passed j (way_node n i x) (λ k. way n k f) ((among (name_of x) (n ∷ []) ≡ false) × SparesInside (n ∷ []) x) (Spares (n ∷ []) f)
      (λ k h. node_spared n i x k h) (λ k h. all_spared n k f j h) e in
      (both.0.0, both.0.1, both.1)

  groups_spared : (n i : ℕ) (gs : NamedGroups) (j : ℕ) → way_groups n i gs ≡ Passed j → SparesGroups (n ∷ []) gs
  groups_spared n i no_groups j e = tt
  groups_spared n i (group_then f gs) j e =
      both_passed j (way n i f) (λ k. way_groups n k gs) (Spares (n ∷ []) f) (SparesGroups (n ∷ []) gs) (λ k h. all_spared n i f k h) (λ k h. groups_spared n k gs j h) e

-- a node stands where it is not so that no node has its name
stands_unless : (n : ℕ) (f : NamedForest) → (Spares (n ∷ []) f → among n (n ∷ []) ≡ false) → StandsIn n f
stands_unless n f h = by_way (way n 0 f) refl
  where
    by_way : (w : Way) → way n 0 f ≡ w → StandsIn n f
    by_way (Reached p) is = rw is refl
    by_way (Passed j) is = absurd (stands_not (n == n) refl (h (all_spared n 0 f j is)))
      where
        stands_not : (b : Bool) → (n == n) ≡ b → cond b true false ≡ false → ⊥
        stands_not true e k = absurd (cc)
        stands_not false e k = eqb-false n n e refl

abbrev IsSpared : List ℕ → NamedNode → Type 0
IsSpared ns x = (among (name_of x) ns ≡ false) × SparesInside ns x

abbrev AllSpared : List ℕ → List NamedNode → Type 0
AllSpared ns [] = Unit {0}
AllSpared ns (x ∷ xs) = IsSpared ns x × AllSpared ns xs

spared-append : (ns : List ℕ) (xs ys : List NamedNode) → AllSpared ns xs → AllSpared ns ys → AllSpared ns (xs ++ ys)
spared-append ns [] ys h k = k
spared-append ns (x ∷ xs) ys h k = (h.0, spared-append ns xs ys h.1 k)

mutual
  node_level : (ns : List ℕ) (x : NamedNode) → among (name_of x) ns ≡ false → SparesInside ns x → AllSpared ns (level_node x)
  node_level ns (named_text n t) e h = ((e, h), tt)
  node_level ns (named_comment n t) e h = ((e, h), tt)
  node_level ns (named_element n t ats f) e h = ((e, h), tt)
  node_level ns (named_anchor n gs) e h = ((e, h), groups_level ns gs h)

  all_level : (ns : List ℕ) (f : NamedForest) → Spares ns f → AllSpared ns (level f)
  all_level ns nothing_named h = tt
  all_level ns (named_then x f) h = spared-append ns (level_node x) (level f) (node_level ns x h.0 h.1) (all_level ns f h.2)

  groups_level : (ns : List ℕ) (gs : NamedGroups) → SparesGroups ns gs → AllSpared ns (level_groups gs)
  groups_level ns no_groups h = tt
  groups_level ns (group_then f gs) h = spared-append ns (level f) (level_groups gs) (all_level ns f h.0) (groups_level ns gs h.1)

nth_spared : (ns : List ℕ) (i : ℕ) (xs : List NamedNode) (x : NamedNode) → AllSpared ns xs → nth_of i xs ≡ Some x → IsSpared ns x
nth_spared ns i [] x h e = absurd (cc)
nth_spared ns zero (y ∷ xs) x h e = let one : y ≡ x = cc in rw (sym one) h.0
nth_spared ns (suc i) (y ∷ xs) x h e = nth_spared ns i xs x h.1 e

inner_spared : (ns : List ℕ) (x : NamedNode) → SparesInside ns x → Spares ns (inner x)
inner_spared ns (named_text n t) h = tt
inner_spared ns (named_comment n t) h = tt
inner_spared ns (named_element n t ats f) h = h
inner_spared ns (named_anchor n gs) h = tt

went_spared : (ns q : List ℕ) (o : Option NamedNode) → ((x : NamedNode) → o ≡ Some x → IsSpared ns x) → (n : ℕ) → option_map name_of (went o q) ≡ Some n → among n ns ≡ false
went_spared ns [] None h n e = absurd (cc)
went_spared ns [] (Some x) h n e = let one : name_of x ≡ n = cc in rw (sym one) (h x refl).0
went_spared ns (i ∷ q) None h n e = went_spared ns q None h n e
went_spared ns (i ∷ q) (Some x) h n e = went_spared ns q (nth_of i (level (inner x))) (λ y k. nth_spared ns i (level (inner x)) y (all_level ns (inner x) (inner_spared ns x (h x refl).1)) k) n e

pub places_stand : PlacesStand
places_stand [] f n e = absurd (cc)
places_stand (i ∷ p) f n e = stands_unless n f (λ h. went_spared (n ∷ []) p (nth_of i (level f)) (λ x k. nth_spared (n ∷ []) i (level f) x (all_level (n ∷ []) f h) k) n e)

either_found : (n : ℕ) (a b : Option ℕ) (X : Type 0) → (a ≡ Some n → X) → (b ≡ Some n → X) → first_of_two a b ≡ Some n → X
either_found n (Some m) b X first second e = first e
either_found n None b X first second e = second e

element_found : (b : Bool) (ns : List ℕ) (n m : ℕ) (o : Option ℕ) → among m ns ≡ false → (o ≡ Some n → among n ns ≡ false) → cond b (Some m) o ≡ Some n → among n ns ≡ false
element_found true ns n m o is h e = let one : m ≡ n = cc in rw (sym one) is
element_found false ns n m o is h e = h e

mutual
  node_found : (id ns : List ℕ) (n : ℕ) (x : NamedNode) → among (name_of x) ns ≡ false → SparesInside ns x → node_with_id id x ≡ Some n → among n ns ≡ false
  node_found id ns n (named_text m t) is h e = absurd (cc)
  node_found id ns n (named_comment m t) is h e = absurd (cc)
  node_found id ns n (named_element m t ats f) is h e = element_found (has_id id ats) ns n m (first_with_id id f) is (λ k. all_found id ns n f h k) e
  node_found id ns n (named_anchor m gs) is h e = groups_found id ns n gs h e

  all_found : (id ns : List ℕ) (n : ℕ) (f : NamedForest) → Spares ns f → first_with_id id f ≡ Some n → among n ns ≡ false
  all_found id ns n nothing_named h e = absurd (cc)
  all_found id ns n (named_then x f) h e =
      either_found n (node_with_id id x) (first_with_id id f) (among n ns ≡ false) (λ k. node_found id ns n x h.0 h.1 k) (λ k. all_found id ns n f h.2 k) e

  groups_found : (id ns : List ℕ) (n : ℕ) (gs : NamedGroups) → SparesGroups ns gs → group_with_id id gs ≡ Some n → among n ns ≡ false
  groups_found id ns n no_groups h e = absurd (cc)
  groups_found id ns n (group_then f gs) h e =
      either_found n (first_with_id id f) (group_with_id id gs) (among n ns ≡ false) (λ k. all_found id ns n f h.0 k) (λ k. groups_found id ns n gs h.1 k) e

pub found_stand : FoundStand
found_stand id f n e = stands_unless n f (λ h. all_found id (n ∷ []) n f h e)
