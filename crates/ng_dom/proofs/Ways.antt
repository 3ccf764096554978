-- The way down to a node.
use Rattle.std.proofs.Common.{◌≡◌, ◌+◌, ℕ, zero, suc, Bool, true, false, List, [], ◌∷◌, ◌++◌, length, reverse, length-append, Option, Some, None, refl, ap, ◌∙◌, sym, cond, arith}
use Rattle.std.specs.Prelude.{◌==◌, option_map}
use Rattle.std.proofs.lemmas.Bool.{eqb-true}
use Rattle.std.proofs.lemmas.List.{reverse-append}
use Rattle.ng_dom.specs.Records.{Runs, node_at}
use Rattle.ng_dom.specs.Nodes.{NamedNode, NamedForest, NamedGroups, named_text, named_comment, named_element, named_anchor, nothing_named, named_then, no_groups, group_then, name_of}
use Rattle.ng_dom.specs.Walks.{named_followed, read, read_shape, read_room}
use Rattle.ng_dom.specs.Kept.{rooms_of, room_kept, shape_kept}
use Rattle.ng_dom.specs.declared.record.Record.{Record}
use Rattle.ng_dom.specs.Printed.{level_node, level, level_groups, inner, nth_of, went, at_place}
use Rattle.ng_dom.specs.Paths.{under, or_from, way_node, way, way_groups, downwards, path_in, StandsIn}
use Rattle.ng_dom.specs.declared.paths.Way.{Way}
use Rattle.ng_dom.specs.declared.paths.Way.TheVariants.{Reached, Passed}

pub or-last : (w : Way) → or_from w (λ j. Passed j) ≡ w
or-last (Reached p) = refl
or-last (Passed j) = refl

pub or-found : (w : Way) (g : ℕ → Way) (p : List ℕ) → w ≡ Reached p → or_from w g ≡ Reached p
or-found w g p e = ap (λ (u : Way). or_from u g) e

pub or-passed : (w : Way) (g : ℕ → Way) (j : ℕ) → w ≡ Passed j → or_from w g ≡ g j
or-passed w g j e = ap (λ (u : Way). or_from u g) e

or-both : (w : Way) (g h : ℕ → Way) → or_from (or_from w g) h ≡ or_from w (λ j. or_from (g j) h)
or-both (Reached p) g h = refl
or-both (Passed j) g h = refl

or-same : (w : Way) (g h : ℕ → Way) → ((j : ℕ) → g j ≡ h j) → or_from w g ≡ or_from w h
or-same (Reached p) g h e = refl
or-same (Passed j) g h e = e j

way-followed : (n i : ℕ) (f g : NamedForest) → way n i (named_followed f g) ≡ or_from (way n i f) (λ j. way n j g)
way-followed n i nothing_named g = refl
way-followed n i (named_then x f) g = or-same (way_node n i x) _ _ (λ j. way-followed n j f g) ∙ sym (or-both (way_node n i x) (λ j. way n j f) (λ j. way n j g))

pub way-found : (n i : ℕ) (f g : NamedForest) (p : List ℕ) → way n i f ≡ Reached p → way n i (named_followed f g) ≡ Reached p
way-found n i f g p e = way-followed n i f g ∙ or-found (way n i f) (λ j. way n j g) p e

pub way-passed : (n i : ℕ) (f g : NamedForest) (j : ℕ) → way n i f ≡ Passed j → way n i (named_followed f g) ≡ way n j g
way-passed n i f g j e = way-followed n i f g ∙ or-passed (way n i f) (λ k. way n k g) j e

pub groups-found : (n i : ℕ) (f : NamedForest) (gs : NamedGroups) (p : List ℕ) → way n i f ≡ Reached p → way_groups n i (group_then f gs) ≡ Reached p
groups-found n i f gs p e = or-found (way n i f) (λ j. way_groups n j gs) p e

pub groups-passed : (n i : ℕ) (f : NamedForest) (gs : NamedGroups) (j : ℕ) → way n i f ≡ Passed j → way_groups n i (group_then f gs) ≡ way_groups n j gs
groups-passed n i f gs j e = or-passed (way n i f) (λ k. way_groups n k gs) j e

pub ruleset way_steps = (or-last, way-found, way-passed, groups-found, groups-passed)

-- the place after all
leaf_passed : (b : Bool) (i j : ℕ) → cond b (Reached (i ∷ [])) (Passed (suc i)) ≡ Passed j → j ≡ 1 + i
leaf_passed true i j e = absurd (cc)
leaf_passed false i j e = let one : suc i ≡ j = cc in omega arith

inner_passed : (b : Bool) (i j : ℕ) (w : Way) → cond b (Reached (i ∷ [])) (under i w) ≡ Passed j → j ≡ 1 + i
inner_passed true i j w e = absurd (cc)
inner_passed false i j (Reached p) e = absurd (cc)
inner_passed false i j (Passed k) e = let one : suc i ≡ j = cc in omega arith

anchor_passed : (b : Bool) (i j : ℕ) (xs : List NamedNode) (w : Way) → (w ≡ Passed j → j ≡ length xs + suc i) → cond b (Reached (i ∷ [])) w ≡ Passed j → j ≡ suc (length xs) + i
anchor_passed true i j xs w groups e = absurd (cc)
anchor_passed false i j xs w groups e = let h = groups e in omega arith

both_passed : (i j : ℕ) (xs ys : List NamedNode) (w : Way) (g : ℕ → Way) → ((k : ℕ) → w ≡ Passed k → k ≡ length xs + i) → ((k : ℕ) → g k ≡ Passed j → j ≡ length ys + k)
    → or_from w g ≡ Passed j → j ≡ length (xs ++ ys) + i
both_passed i j xs ys (Reached p) g first second e = absurd (cc)
both_passed i j xs ys (Passed k) g first second e = let a = first k refl in let b = second k e in let l = length-append xs ys in omega arith

mutual
  node_passed : (n i : ℕ) (x : NamedNode) (j : ℕ) → way_node n i x ≡ Passed j → j ≡ length (level_node x) + i
  node_passed n i (named_text m t) j e = leaf_passed (m == n) i j e
  node_passed n i (named_comment m t) j e = leaf_passed (m == n) i j e
  node_passed n i (named_element m t ats f) j e = inner_passed (m == n) i j (way n 0 f) e
  node_passed n i (named_anchor m gs) j e = anchor_passed (m == n) i j (level_groups gs) (way_groups n (suc i) gs) (λ h. groups_passed n (suc i) gs j h) e

  all_passed : (n i : ℕ) (f : NamedForest) (j : ℕ) → way n i f ≡ Passed j → j ≡ length (level f) + i
  all_passed n i nothing_named j e = let one : i ≡ j = cc in omega arith
  all_passed n i (named_then x f) j e =
      both_passed i j (level_node x) (level f) (way_node n i x) (λ k. way n k f) (λ k h. node_passed n i x k h) (λ k h. all_passed n k f j h) e

  groups_passed : (n i : ℕ) (gs : NamedGroups) (j : ℕ) → way_groups n i gs ≡ Passed j → j ≡ length (level_groups gs) + i
  groups_passed n i no_groups j e = let one : i ≡ j = cc in omega arith
  groups_passed n i (group_then f gs) j e =
      both_passed i j (level f) (level_groups gs) (way n i f) (λ k. way_groups n k gs) (λ k h. all_passed n i f k h) (λ k h. groups_passed n k gs j h) e

-- the numbers q lead to the node n from the place i of these
record Leads (n i : ℕ) (xs : List NamedNode) (q : List ℕ) : Type 0 where
  step : ℕ
  rest : List ℕ
  is : q ≡ (step + i) ∷ rest
  there : option_map name_of (went (nth_of step xs) rest) ≡ Some n

none_went : (q : List ℕ) → went None q ≡ None
none_went [] = refl
none_went (k ∷ q) = none_went q

nth_in_first : (q : List ℕ) (n k : ℕ) (xs ys : List NamedNode) → option_map name_of (went (nth_of k xs) q) ≡ Some n → option_map name_of (went (nth_of k (xs ++ ys)) q) ≡ Some n
nth_in_first q n k [] ys e = absurd (let h = ap (option_map name_of) (none_went q) in cc)
nth_in_first q n zero (x ∷ xs) ys e = e
nth_in_first q n (suc k) (x ∷ xs) ys e = nth_in_first q n k xs ys e

nth_in_second : (k : ℕ) (xs ys : List NamedNode) → nth_of (length xs + k) (xs ++ ys) ≡ nth_of k ys
nth_in_second k [] ys = let one : 0 + k ≡ k = omega arith in ap (λ (j : ℕ). nth_of j ys) one
nth_in_second k (x ∷ xs) ys = let one : suc (length xs) + k ≡ suc (length xs + k) = omega arith in ap (λ (j : ℕ). nth_of j (x ∷ (xs ++ ys))) one ∙ nth_in_second k xs ys

leads_first : (n i : ℕ) (xs ys : List NamedNode) (q : List ℕ) → Leads n i xs q → Leads n i (xs ++ ys) q
leads_first n i xs ys q h = record { step = h.step; rest = h.rest; is = h.is; there = nth_in_first h.rest n h.step xs ys h.there }

leads_second : (n i j : ℕ) (xs ys : List NamedNode) (q : List ℕ) → j ≡ length xs + i → Leads n j ys q → Leads n i (xs ++ ys) q
leads_second n i j xs ys q e h =
    let places : h.step + j ≡ (length xs + h.step) + i = omega arith in
    record {
      step = length xs + h.step;
      rest = h.rest;
      is = h.is ∙ ap (λ (k : ℕ). k ∷ h.rest) places;
      there = ap (λ (o : Option NamedNode). option_map name_of (went o h.rest)) (nth_in_second h.step xs ys) ∙ h.there;
    }

leads_to : (n i : ℕ) (x : NamedNode) (xs : List NamedNode) (q r : List ℕ) → q ≡ i ∷ r → option_map name_of (went (Some x) r) ≡ Some n → Leads n i (x ∷ xs) q
leads_to n i x xs q r e h =
    let one : i ≡ 0 + i = omega arith in
    record { step = zero; rest = r; is = e ∙ ap (λ (k : ℕ). k ∷ r) one; there = h }

leads_here : (n i : ℕ) (x : NamedNode) (xs : List NamedNode) (p : List ℕ) → name_of x ≡ n → Reached (i ∷ []) ≡ Reached p → Leads n i (x ∷ xs) (reverse p)
leads_here n i x xs p e h =
    let one : i ∷ [] ≡ p = cc in
    leads_to n i x xs (reverse p) [] (ap reverse (sym one)) (ap (λ (k : ℕ). Some k) e)

leads_inside : (n i : ℕ) (x : NamedNode) (xs : List NamedNode) (p r : List ℕ) → r ++ i ∷ [] ≡ p → Leads n 0 (level (inner x)) (reverse r) → Leads n i (x ∷ xs) (reverse p)
leads_inside n i x xs p r e h =
    let first : h.step + 0 ≡ h.step = omega arith in
    leads_to n i x xs (reverse p) (reverse r) (ap reverse (sym e) ∙ reverse-append r (i ∷ []))
    (ap (λ (q : List ℕ). option_map name_of (went (Some x) q)) (h.is ∙ ap (λ (k : ℕ). k ∷ h.rest) first) ∙ h.there)

leaf_leads : (b : Bool) (n i : ℕ) (x : NamedNode) (p : List ℕ) → (name_of x == n) ≡ b → cond b (Reached (i ∷ [])) (Passed (suc i)) ≡ Reached p → Leads n i (x ∷ []) (reverse p)
leaf_leads true n i x p is e = leads_here n i x [] p (eqb-true (name_of x) n is) e
leaf_leads false n i x p is e = absurd (cc)

element_leads : (b : Bool) (n i : ℕ) (x : NamedNode) (p : List ℕ) → (name_of x == n) ≡ b → (w : Way) → ((r : List ℕ) → w ≡ Reached r → Leads n 0 (level (inner x)) (reverse r))
    → cond b (Reached (i ∷ [])) (under i w) ≡ Reached p → Leads n i (x ∷ []) (reverse p)
element_leads true n i x p is w inside e = leads_here n i x [] p (eqb-true (name_of x) n is) e
element_leads false n i x p is (Reached r) inside e = leads_inside n i x [] p r (cc) (inside r refl)
element_leads false n i x p is (Passed j) inside e = absurd (cc)

anchor_leads : (b : Bool) (n i : ℕ) (x : NamedNode) (xs : List NamedNode) (p : List ℕ) (w : Way) → (name_of x == n) ≡ b → (w ≡ Reached p → Leads n (suc i) xs (reverse p))
    → cond b (Reached (i ∷ [])) w ≡ Reached p → Leads n i (x ∷ xs) (reverse p)
anchor_leads true n i x xs p w is groups e = leads_here n i x xs p (eqb-true (name_of x) n is) e
anchor_leads false n i x xs p w is groups e = leads_second n i (suc i) (x ∷ []) xs (reverse p) (omega arith) (groups e)

both_lead : (n i : ℕ) (xs ys : List NamedNode) (p : List ℕ) (w : Way) (g : ℕ → Way) → ((k : ℕ) → w ≡ Passed k → k ≡ length xs + i)
    → (w ≡ Reached p → Leads n i xs (reverse p)) → ((k : ℕ) → g k ≡ Reached p → Leads n k ys (reverse p)) → or_from w g ≡ Reached p → Leads n i (xs ++ ys) (reverse p)
both_lead n i xs ys p (Reached r) g passed first second e = leads_first n i xs ys (reverse p) (first e)
both_lead n i xs ys p (Passed k) g passed first second e = leads_second n i k xs ys (reverse p) (passed k refl) (second k e)

mutual
  node_leads : (n i : ℕ) (x : NamedNode) (p : List ℕ) → way_node n i x ≡ Reached p → Leads n i (level_node x) (reverse p)
  node_leads n i (named_text m t) p e = leaf_leads (m == n) n i (named_text m t) p refl e
  node_leads n i (named_comment m t) p e = leaf_leads (m == n) n i (named_comment m t) p refl e
  node_leads n i (named_element m t ats f) p e = element_leads (m == n) n i (named_element m t ats f) p refl (way n 0 f) (λ r h. all_lead n 0 f r h) e
  node_leads n i (named_anchor m gs) p e = anchor_leads (m == n) n i (named_anchor m gs) (level_groups gs) p (way_groups n (suc i) gs) refl (λ h. groups_lead n (suc i) gs p h) e

  all_lead : (n i : ℕ) (f : NamedForest) (p : List ℕ) → way n i f ≡ Reached p → Leads n i (level f) (reverse p)
  all_lead n i nothing_named p e = absurd (cc)
  all_lead n i (named_then x f) p e =
      both_lead n i (level_node x) (level f) p (way_node n i x) (λ k. way n k f) (λ k h. node_passed n i x k h) (λ h. node_leads n i x p h) (λ k h. all_lead n k f p h) e

  groups_lead : (n i : ℕ) (gs : NamedGroups) (p : List ℕ) → way_groups n i gs ≡ Reached p → Leads n i (level_groups gs) (reverse p)
  groups_lead n i no_groups p e = absurd (cc)
  groups_lead n i (group_then f gs) p e =
      both_lead n i (level f) (level_groups gs) p (way n i f) (λ k. way_groups n k gs) (λ k h. all_passed n i f k h) (λ h. all_lead n i f p h) (λ k h. groups_lead n k gs p h) e

-- the node is at its path
pub path_leads : (n : ℕ) (f : NamedForest) (p : List ℕ) → path_in n f ≡ Some p → option_map name_of (at_place p f) ≡ Some n
path_leads n f p e = by_way (way n 0 f) refl e
  where
    by_way : (w : Way) → way n 0 f ≡ w → downwards w ≡ Some p → option_map name_of (at_place p f) ≡ Some n
    by_way (Passed j) is h = absurd (cc)
    by_way (Reached r) is h =
        let l = all_lead n 0 f r is in
        let same : reverse r ≡ p = cc in
        let first : l.step + 0 ≡ l.step = omega arith in
        ap (λ (q : List ℕ). option_map name_of (at_place q f)) (sym same ∙ (l.is ∙ ap (λ (k : ℕ). k ∷ l.rest) first)) ∙ l.there

-- a node that isn't met doesn't stand there
pub none_stands : (n : ℕ) (f : NamedForest) (j : ℕ) → way n 0 f ≡ Passed j → StandsIn n f → ⊥
none_stands n f j e h = let none = ap downwards e in cc

-- the node of a name, one level further down
pub read_kept : (nodes : Runs) (k m : ℕ) (x : Record) → Some x ≡ node_at nodes m → read (suc k) (rooms_of nodes) m ≡ read_shape (read k (rooms_of nodes)) m (shape_kept x.content)
read_kept nodes k m x e = ap (λ (o : Option Record). read_room (read k (rooms_of nodes)) m (option_map room_kept o)) (sym e)
