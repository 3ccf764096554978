-- The elements round a node are those that are met from parent to parent.
use Rattle.std.proofs.Common.{◌≡◌, ◌+◌, ◌-◌, ◌<◌, ◌≤◌, ℕ, zero, suc, Bool, true, false, List, [], ◌∷◌, ◌++◌, append_assoc, append-nil, Option, Some, None, refl, ap, ◌∙◌, sym, cond, arith}
use Rattle.std.specs.Prelude.{◌==◌, option_map, is_some, IsSome, unwrap_or}
use Rattle.std.specs.Option.{option_or}
use Rattle.std.proofs.lemmas.Bool.{eqb-true}
use Rattle.ng_markup.specs.Forest.{Attributes}
use Rattle.ng_dom.specs.Nodes.{NamedNode, NamedForest, NamedGroups, named_text, named_comment, named_element, named_anchor, nothing_named, named_then, no_groups, group_then, name_of}
use Rattle.ng_dom.specs.Rooms.{Rooms, HasRoom, ReadsInside, ReadsIn, ReadsGroups}
use Rattle.ng_dom.specs.Ancestors.{line_in_node, line_in, line_in_groups, line, parent_in, if_element, outer_line}
use Rattle.ng_dom.specs.Paths.{under, or_from, way_node, way, way_groups, downwards, StandsIn}
use Rattle.ng_dom.specs.declared.paths.Way.{Way}
use Rattle.ng_dom.specs.declared.paths.Way.TheVariants.{Reached, Passed}

-- a node that is met has a line
abbrev is_reached : Way → Bool
is_reached (Reached p) = true
is_reached (Passed j) = false

either_reached : (w : Way) (g : ℕ → Way) (o q : Option (List ℕ)) → is_reached w ≡ is_some o → ((j : ℕ) → is_reached (g j) ≡ is_some q) → is_reached (or_from w g) ≡ is_some (option_or o q)
either_reached (Reached p) g (Some l) q first second = refl
either_reached (Reached p) g None q first second = absurd (cc)
either_reached (Passed j) g (Some l) q first second = absurd (cc)
either_reached (Passed j) g None q first second = second j

leaf_reached : (b : Bool) (n i : ℕ) → is_reached (cond b (Reached (i ∷ [])) (Passed (suc i))) ≡ is_some (cond b (Some (n ∷ [])) None)
leaf_reached true n i = refl
leaf_reached false n i = refl

element_reached : (b : Bool) (n i m : ℕ) (w : Way) (o : Option (List ℕ)) → is_reached w ≡ is_some o
    → is_reached (cond b (Reached (i ∷ [])) (under i w)) ≡ is_some (cond b (Some (n ∷ [])) (option_map (λ l. l ++ m ∷ []) o))
element_reached true n i m w o e = refl
element_reached false n i m (Reached p) (Some l) e = refl
element_reached false n i m (Reached p) None e = absurd (cc)
element_reached false n i m (Passed j) (Some l) e = absurd (cc)
element_reached false n i m (Passed j) None e = refl

anchor_reached : (b : Bool) (n i : ℕ) (w : Way) (o : Option (List ℕ)) → is_reached w ≡ is_some o → is_reached (cond b (Reached (i ∷ [])) w) ≡ is_some (cond b (Some (n ∷ [])) o)
anchor_reached true n i w o e = refl
anchor_reached false n i w o e = e

mutual
  node_reached : (n i : ℕ) (x : NamedNode) → is_reached (way_node n i x) ≡ is_some (line_in_node n x)
  node_reached n i (named_text m t) = leaf_reached (m == n) n i
  node_reached n i (named_comment m t) = leaf_reached (m == n) n i
  node_reached n i (named_element m e ats f) = element_reached (m == n) n i m (way n 0 f) (line_in n f) (all_reached n 0 f)
  node_reached n i (named_anchor m gs) = anchor_reached (m == n) n i (way_groups n (suc i) gs) (line_in_groups n gs) (groups_reached n (suc i) gs)

  all_reached : (n i : ℕ) (f : NamedForest) → is_reached (way n i f) ≡ is_some (line_in n f)
  all_reached n i nothing_named = refl
  all_reached n i (named_then x f) = either_reached (way_node n i x) (λ j. way n j f) (line_in_node n x) (line_in n f) (node_reached n i x) (λ j. all_reached n j f)

  groups_reached : (n i : ℕ) (gs : NamedGroups) → is_reached (way_groups n i gs) ≡ is_some (line_in_groups n gs)
  groups_reached n i no_groups = refl
  groups_reached n i (group_then f gs) = either_reached (way n i f) (λ j. way_groups n j gs) (line_in n f) (line_in_groups n gs) (all_reached n i f) (λ j. groups_reached n j gs)

-- nothing is above the top
pub line-ends : (k : ℕ) (r : Rooms) → outer_line k r None ≡ []
line-ends zero r = refl
line-ends (suc k) r = refl

-- a step up, where one is left
pub line-rises : (k i m : ℕ) (r : Rooms) → i < k → outer_line (k - i) r (Some m) ≡ if_element (r m) m ++ outer_line (k - (i + 1)) r (parent_in r m)
line-rises k i m r less = let left : k - i ≡ suc (k - (i + 1)) = omega arith in ap (λ (j : ℕ). outer_line j r (Some m)) left

pub ruleset line_steps = (line-ends, line-rises)

-- all names with a room are below a bound
module _ (r : Rooms) (top n : ℕ) (below : (p : Option ℕ) (x : NamedNode) → HasRoom r p x → name_of x < top) where
  -- a name is among those of fewer steps
  abbrev IsNear : ℕ → Option ℕ → Type 0
  IsNear k None = Unit {0}
  IsNear k (Some m) = m < k

  -- from here on upwards these elements are met, where there are steps enough
  abbrev Meets : Option ℕ → List ℕ → Type 0
  Meets p above = (k : ℕ) → IsNear k p → outer_line k r p ≡ above

  abbrev IsLine : List ℕ → Type 0
  IsLine l = n ∷ outer_line top r (parent_in r n) ≡ l

  parent_is : (p : Option ℕ) (x : NamedNode) → HasRoom r p x → parent_in r (name_of x) ≡ p
  parent_is p x has = rw has.1 refl

  -- above a node are those that are met from its parent on
  rises : (p : Option ℕ) (x : NamedNode) (above : List ℕ) (k : ℕ) → name_of x ≤ k → HasRoom r p x → Meets p above → outer_line k r (parent_in r (name_of x)) ≡ above
  rises None x above k le has up = ap (outer_line k r) (parent_is None x has) ∙ up k tt
  rises (Some m) x above k le has up = let after = has.0 in ap (outer_line k r) (parent_is (Some m) x has) ∙ up k (omega arith)

  over_element : (p : Option ℕ) (m : ℕ) (t : List ℕ) (ats : Attributes) (f : NamedForest) (above : List ℕ) → HasRoom r p (named_element m t ats f) → Meets p above → Meets (Some m) (m ∷ above)
  over_element p m t ats f above has up zero near = absurd (omega arith)
  over_element p m t ats f above has up (suc k) near =
      let here : if_element (r m) m ≡ m ∷ [] = rw has.1 refl in
      ap (λ (l : List ℕ). l ++ outer_line k r (parent_in r m)) here ∙ ap (λ (l : List ℕ). m ∷ l) (rises p (named_element m t ats f) above k (omega arith) has up)

  over_anchor : (p : Option ℕ) (m : ℕ) (gs : NamedGroups) (above : List ℕ) → HasRoom r p (named_anchor m gs) → Meets p above → Meets (Some m) above
  over_anchor p m gs above has up zero near = absurd (omega arith)
  over_anchor p m gs above has up (suc k) near =
      let here : if_element (r m) m ≡ [] = rw has.1 refl in
      ap (λ (l : List ℕ). l ++ outer_line k r (parent_in r m)) here ∙ rises p (named_anchor m gs) above k (omega arith) has up

  here_or : (b : Bool) (p : Option ℕ) (x : NamedNode) (above l : List ℕ) (o : Option (List ℕ)) → (name_of x == n) ≡ b → HasRoom r p x → Meets p above → (o ≡ Some l → IsLine (l ++ above))
      → cond b (Some (n ∷ [])) o ≡ Some l → IsLine (l ++ above)
  here_or true p x above l o is has up inside e =
      let same : name_of x ≡ n = eqb-true (name_of x) n is in
      let under = below p x has in
      let one : n ∷ [] ≡ l = cc in
      ap (λ (m : ℕ). n ∷ outer_line top r (parent_in r m)) (sym same) ∙ (ap (λ (q : List ℕ). n ∷ q) (rises p x above top (omega arith) has up) ∙ ap (λ (q : List ℕ). q ++ above) one)
  here_or false p x above l o is has up inside e = inside e

  either_line : (above l : List ℕ) (o q : Option (List ℕ)) → (o ≡ Some l → IsLine (l ++ above)) → (q ≡ Some l → IsLine (l ++ above)) → option_or o q ≡ Some l → IsLine (l ++ above)
  either_line above l (Some k) q first second e = first e
  either_line above l None q first second e = second e

  in_element : (m : ℕ) (above l : List ℕ) (o : Option (List ℕ)) → ((k : List ℕ) → o ≡ Some k → IsLine (k ++ m ∷ above)) → option_map (λ k. k ++ m ∷ []) o ≡ Some l → IsLine (l ++ above)
  in_element m above l None inside e = absurd (cc)
  in_element m above l (Some k) inside e =
      let one : k ++ m ∷ [] ≡ l = cc in
      inside k refl ∙ (sym (append_assoc k (m ∷ []) above) ∙ ap (λ (q : List ℕ). q ++ above) one)

  mutual
    node_line : (p : Option ℕ) (x : NamedNode) (above l : List ℕ) → HasRoom r p x → ReadsInside r x → Meets p above → line_in_node n x ≡ Some l → IsLine (l ++ above)
    node_line p (named_text m t) above l has h up e = here_or (m == n) p (named_text m t) above l None refl has up (λ k. absurd (cc)) e
    node_line p (named_comment m t) above l has h up e = here_or (m == n) p (named_comment m t) above l None refl has up (λ k. absurd (cc)) e
    node_line p (named_element m t ats f) above l has h up e =
        here_or (m == n) p (named_element m t ats f) above l (option_map (λ k. k ++ m ∷ []) (line_in n f)) refl has up
        (λ i. in_element m above l (line_in n f) (λ k j. all_line (Some m) f (m ∷ above) k h (over_element p m t ats f above has up) j) i) e
    node_line p (named_anchor m gs) above l has h up e =
        here_or (m == n) p (named_anchor m gs) above l (line_in_groups n gs) refl has up (λ i. groups_line (Some m) gs above l h (over_anchor p m gs above has up) i) e

    all_line : (p : Option ℕ) (f : NamedForest) (above l : List ℕ) → ReadsIn r p f → Meets p above → line_in n f ≡ Some l → IsLine (l ++ above)
    all_line p nothing_named above l h up e = absurd (cc)
    all_line p (named_then x f) above l h up e =
        either_line above l (line_in_node n x) (line_in n f) (λ i. node_line p x above l h.0 h.1 up i) (λ i. all_line p f above l h.2 up i) e

    groups_line : (p : Option ℕ) (gs : NamedGroups) (above l : List ℕ) → ReadsGroups r p gs → Meets p above → line_in_groups n gs ≡ Some l → IsLine (l ++ above)
    groups_line p no_groups above l h up e = absurd (cc)
    groups_line p (group_then f gs) above l h up e =
        either_line above l (line_in n f) (line_in_groups n gs) (λ i. all_line p f above l h.0 up i) (λ i. groups_line p gs above l h.1 up i) e

  -- the line of a node that stands in the document
  pub line_met : (f : NamedForest) → ReadsIn r None f → StandsIn n f → n ∷ outer_line top r (parent_in r n) ≡ line n f
  line_met f reads stands = by_line (line_in n f) refl (way n 0 f) (all_reached n 0 f) stands
    where
      by_line : (o : Option (List ℕ)) → line_in n f ≡ o → (w : Way) → is_reached w ≡ is_some o → IsSome (downwards w) → IsLine (unwrap_or o [])
      by_line (Some l) is w e s = all_line None f [] l reads (λ k near. line-ends k r) is ∙ append-nil l
      by_line None is (Reached p) e s = absurd (cc)
      by_line None is (Passed j) e s = absurd (cc)
