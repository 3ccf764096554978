-- A document in which nothing stands apart stays so, where a group comes or goes.
use Rattle.std.proofs.Common.{◌≡◌, ◌≤◌, ◌+◌, ◌⊎◌, ℕ, zero, suc, Bool, true, false, List, [], ◌∷◌, ◌++◌, Option, Some, None, refl, ap, ◌∙◌, sym, subst, cond, inl, inr, is_some, arith, add_assoc}
use Rattle.std.specs.Prelude.{◌==◌, nat_eq}
use Rattle.std.specs.List.{AllByRecursion, IsDistinct}
use Rattle.std.proofs.lemmas.Bool.{eqb-true, eqb-false, eq-eqb, ne_eqb}
use Rattle.std.proofs.lemmas.Map.Keys.{IsDistinct-head, IsDistinct-tail, IsDistinct-cons}
use Rattle.ng_dom.specs.Document.{rooms, Shows, Holds, Fewer}
use Rattle.ng_dom.specs.Editing.{at_name, changed, changed_in, changed_groups, with_groups, group_at, group_inserted, group_removed}
use Rattle.ng_dom.specs.Laws.{HoldsSame, HoldsEmptied, HoldsCut, HoldsInserted}
use Rattle.ng_dom.specs.Lists.{among, list_at}
use Rattle.ng_dom.specs.Nodes.{NamedNode, NamedForest, NamedGroups, named_text, named_comment, named_element, named_anchor, nothing_named, named_then, no_groups, group_then, name_of, names_of, node_names, all_names, all_group_names}
use Rattle.ng_dom.specs.Removal.{group_emptied, groups_in, AreGone}
use Rattle.ng_dom.specs.Rooms.{Room, Rooms, text_shape, comment_shape, element_shape, anchor_shape, shape_of, room_of, HasRoom, ReadsInside, ReadsIn, ReadsGroups}
use Rattle.ng_dom.specs.declared.dom.Dom.{Dom}
use Rattle.ng_dom.proofs.Apart.{not_among, names_are_gone}
use Rattle.ng_dom.proofs.Groups.{names-at, reads-at}
use Rattle.ng_dom.proofs.Homes.{fewer_are_live}
use Rattle.ng_dom.proofs.Once.{one_reading}
use Rattle.ng_dom.proofs.Removing.{either, among-append, among-left, among-right}

-- how often a name stands in a list
abbrev one : Bool → ℕ
one true = 1
one false = 0

abbrev times : ℕ → List ℕ → ℕ
times n [] = 0
times n (k ∷ ks) = one (k == n) + times n ks

times-append : (n : ℕ) (xs ys : List ℕ) → times n (xs ++ ys) ≡ times n xs + times n ys
times-append n [] ys = omega arith
times-append n (x ∷ xs) ys = ap (λ (k : ℕ). one (x == n) + k) (times-append n xs ys) ∙ sym (add_assoc (one (x == n)) (times n xs) (times n ys))

among-times : (n : ℕ) (ks : List ℕ) → among n ks ≡ true → 1 ≤ times n ks
among-times n [] e = absurd (cc)
among-times n (k ∷ ks) e = by_test (k == n) e (among-times n ks)
  where
    by_test : (b : Bool) → cond b true (among n ks) ≡ true → (among n ks ≡ true → 1 ≤ times n ks) → 1 ≤ one b + times n ks
    by_test true e more = omega arith
    by_test false e more = let le = more e in omega (arith, le)

times-among : (n : ℕ) (ks : List ℕ) → 1 ≤ times n ks → among n ks ≡ true
times-among n [] le = absurd (omega (arith, le))
times-among n (k ∷ ks) le = by_test (k == n) le (times-among n ks)
  where
    by_test : (b : Bool) → 1 ≤ one b + times n ks → (1 ≤ times n ks → among n ks ≡ true) → cond b true (among n ks) ≡ true
    by_test true le more = refl
    by_test false le more = more (omega (arith, le))

never : (n : ℕ) (ks : List ℕ) → AllByRecursion (λ k. nat_eq n k ≡ false) ks → times n ks ≡ 0
never n ks all = by_number (times n ks) refl
  where
    by_number : (t : ℕ) → times n ks ≡ t → times n ks ≡ 0
    by_number zero e = e
    by_number (suc t) e = absurd (not_among n ks all (times-among n ks (omega (arith, e))))

distinct-times : (n : ℕ) (ks : List ℕ) → IsDistinct nat_eq ks → times n ks ≤ 1
distinct-times n [] d = omega arith
distinct-times n (k ∷ ks) d = by_test (k == n) refl (distinct-times n ks (IsDistinct-tail nat_eq k ks d))
  where
    by_test : (b : Bool) → (k == n) ≡ b → times n ks ≤ 1 → one b + times n ks ≤ 1
    by_test true t le =
        let none : times k ks ≡ 0 = never k ks (IsDistinct-head nat_eq k ks d) in
        let same : times n ks ≡ 0 = ap (λ (m : ℕ). times m ks) (sym (eqb-true k n t)) ∙ none in
        omega (arith, same)
    by_test false t le = omega (arith, le)

none-same : (n : ℕ) (ks : List ℕ) → times n ks ≡ 0 → AllByRecursion (λ k. nat_eq n k ≡ false) ks
none-same n [] e = tt
none-same n (k ∷ ks) e = by_test (k == n) refl e (none-same n ks)
  where
    by_test : (b : Bool) → (k == n) ≡ b → one b + times n ks ≡ 0 → (times n ks ≡ 0 → AllByRecursion (λ q. nat_eq n q ≡ false) ks) → AllByRecursion (λ q. nat_eq n q ≡ false) (k ∷ ks)
    by_test true t none more = absurd (omega (arith, none))
    by_test false t none more = (ne_eqb n k (λ h. eqb-false k n t (sym h)), more (omega (arith, none)))

times-distinct : (ks : List ℕ) → ((n : ℕ) → times n ks ≤ 1) → IsDistinct nat_eq ks
unfolding IsDistinct
times-distinct [] all = tt
times-distinct (k ∷ ks) all = IsDistinct-cons nat_eq k ks (none-same k ks (first (all k))) (times-distinct ks (λ n. rest n (all n)))
  where
    first : one (k == k) + times k ks ≤ 1 → times k ks ≡ 0
    first le = by_test (k == k) (eq-eqb k k refl) le
      where
        by_test : (b : Bool) → b ≡ true → one b + times k ks ≤ 1 → times k ks ≡ 0
        by_test true e le = omega (arith, le)
        by_test false e le = absurd (cc)

    rest : (n : ℕ) → one (k == n) + times n ks ≤ 1 → times n ks ≤ 1
    rest n le = omega (arith, le)

-- nothing comes that was not there
fewer-distinct : (xs ys : List ℕ) → ((n : ℕ) → times n ys ≤ times n xs) → IsDistinct nat_eq xs → IsDistinct nat_eq ys
fewer-distinct xs ys less d = times-distinct ys (λ n. let le = less n in let once = distinct-times n xs d in omega (arith, le, once))

first_below : (c x y : ℕ) → x ≤ y → c + x ≤ c + y
first_below c x y le = omega (arith, le)

parts_below : (n : ℕ) (xs ys us vs : List ℕ) → times n us ≤ times n xs → times n vs ≤ times n ys → times n (us ++ vs) ≤ times n (xs ++ ys)
parts_below n xs ys us vs h k = let e = times-append n us vs in let w = times-append n xs ys in omega (arith, e, w, h, k)

-- a change of the groups of an anchor that takes names alone
module _ (a : ℕ) (g : NamedGroups → NamedGroups) (less : (gs : NamedGroups) (n : ℕ) → times n (all_group_names (g gs)) ≤ times n (all_group_names gs)) where
  by_either : (P : NamedNode → Type 0) (b : Bool) (x : NamedNode) → (b ≡ true → P (with_groups g x)) → P x → P (cond b (with_groups g x) x)
  by_either P true x h k = h refl
  by_either P false x h k = k

  mutual
    node_less : (n : ℕ) (x : NamedNode) → times n (node_names (changed a (with_groups g) x)) ≤ times n (node_names x)
    node_less n (named_text m t) = by_either (λ y. times n (node_names y) ≤ times n (m ∷ [])) (m == a) (named_text m t) (λ b. omega arith) (omega arith)
    node_less n (named_comment m t) = by_either (λ y. times n (node_names y) ≤ times n (m ∷ [])) (m == a) (named_comment m t) (λ b. omega arith) (omega arith)
    node_less n (named_element m e ats f) =
        let le = first_below (one (m == n)) (times n (all_names (changed_in a (with_groups g) f))) (times n (all_names f)) (all_less n f) in
        by_either (λ y. times n (node_names y) ≤ times n (m ∷ all_names f)) (m == a) (named_element m e ats (changed_in a (with_groups g) f)) (λ b. le) le
    node_less n (named_anchor m gs) =
        let hs = changed_groups a (with_groups g) gs in
        let le = groups_less n gs in
        let more = less hs n in
        by_either (λ y. times n (node_names y) ≤ times n (m ∷ all_group_names gs)) (m == a) (named_anchor m hs)
        (λ b. first_below (one (m == n)) (times n (all_group_names (g hs))) (times n (all_group_names gs)) (omega (arith, le, more)))
        (first_below (one (m == n)) (times n (all_group_names hs)) (times n (all_group_names gs)) le)

    all_less : (n : ℕ) (f : NamedForest) → times n (all_names (changed_in a (with_groups g) f)) ≤ times n (all_names f)
    all_less n nothing_named = omega arith
    all_less n (named_then x f) = parts_below n (node_names x) (all_names f) (node_names (changed a (with_groups g) x)) (all_names (changed_in a (with_groups g) f)) (node_less n x) (all_less n f)

    groups_less : (n : ℕ) (gs : NamedGroups) → times n (all_group_names (changed_groups a (with_groups g) gs)) ≤ times n (all_group_names gs)
    groups_less n no_groups = omega arith
    groups_less n (group_then f gs) =
        parts_below n (all_names f) (all_group_names gs) (all_names (changed_in a (with_groups g) f)) (all_group_names (changed_groups a (with_groups g) gs)) (all_less n f) (groups_less n gs)

  group_changed : (i : ℕ) (gs : NamedGroups) → group_at i (changed_groups a (with_groups g) gs) ≡ changed_in a (with_groups g) (group_at i gs)
  group_changed i no_groups = refl
  group_changed zero (group_then f gs) = refl
  group_changed (suc i) (group_then f gs) = group_changed i gs

  -- what isn't there any more was in the i-th group, whose nodes are gone
  module _ (r s : Rooms) (i : ℕ) (piece : NamedForest) (named : names_of piece ≡ list_at i (groups_in (r a))) (reads : ReadsIn r (Some a) piece) (gone : AreGone s piece)
      (left : (gs : NamedGroups) (n : ℕ) → among n (all_group_names gs) ≡ true → (among n (all_group_names (g gs)) ≡ true) ⊎ (among n (all_names (group_at i gs)) ≡ true)) where
    abbrev Stays : ℕ → List ℕ → Type 0
    Stays n ks = (among n ks ≡ true) ⊎ (s n ≡ None)

    is_piece : (p : Option ℕ) (m : ℕ) (gs : NamedGroups) → m ≡ a → HasRoom r p (named_anchor m gs) → ReadsGroups r (Some m) gs → group_at i gs ≡ piece
    is_piece p m gs e has h =
        let here : r a ≡ Some (room_of p (named_anchor m gs)) = ap r (sym e) ∙ has.1 in
        let names : names_of (group_at i gs) ≡ names_of piece = names-at i gs ∙ sym (named ∙ ap (λ (o : Option Room). list_at i (groups_in o)) here) in
        one_reading r (Some a) (group_at i gs) piece (subst (λ (k : ℕ). ReadsIn r (Some k) (group_at i gs)) e (reads-at r (Some m) i gs h)) reads names

    in_piece : (n i : ℕ) (gs : NamedGroups) → group_at i gs ≡ piece → among n (all_names (group_at i (changed_groups a (with_groups g) gs))) ≡ true → s n ≡ None
    in_piece n i gs same e =
        let was : among n (all_names (changed_in a (with_groups g) (group_at i gs))) ≡ true = ap (λ (f : NamedForest). among n (all_names f)) (sym (group_changed i gs)) ∙ e in
        let le = among-times n (all_names (changed_in a (with_groups g) (group_at i gs))) was in
        let less_here = all_less n (group_at i gs) in
        let there : among n (all_names (group_at i gs)) ≡ true = times-among n (all_names (group_at i gs)) (omega (arith, le, less_here)) in
        names_are_gone s piece n gone (ap (λ (f : NamedForest). among n (all_names f)) (sym same) ∙ there)

    first_or : (b : Bool) (n m : ℕ) (ks us : List ℕ) → (m == n) ≡ b → (among n ks ≡ true → Stays n us) → cond b true (among n ks) ≡ true → Stays n (m ∷ us)
    first_or true n m ks us t more e = inl (rw t refl)
    first_or false n m ks us t more e = either (λ h. inl (among-right n (m ∷ []) us h)) (λ h. inr h) (more e)

    mutual
      node_stays : (p : Option ℕ) (n : ℕ) (x : NamedNode) → HasRoom r p x → ReadsInside r x → among n (node_names x) ≡ true → Stays n (node_names (changed a (with_groups g) x))
      node_stays p n (named_text m t) has h e = by_either (λ y. Stays n (node_names y)) (m == a) (named_text m t) (λ b. inl e) (inl e)
      node_stays p n (named_comment m t) has h e = by_either (λ y. Stays n (node_names y)) (m == a) (named_comment m t) (λ b. inl e) (inl e)
      node_stays p n (named_element m t ats f) has h e =
          let here : Stays n (m ∷ all_names (changed_in a (with_groups g) f)) = first_or (m == n) n m (all_names f) (all_names (changed_in a (with_groups g) f)) refl (all_stay (Some m) n f h) e in
          by_either (λ y. Stays n (node_names y)) (m == a) (named_element m t ats (changed_in a (with_groups g) f)) (λ b. here) here
      node_stays p n (named_anchor m gs) has h e =
          let hs = changed_groups a (with_groups g) gs in
          by_either (λ y. Stays n (node_names y)) (m == a) (named_anchor m hs)
          (λ b. first_or (m == n) n m (all_group_names gs) (all_group_names (g hs)) refl
          (λ k. either (λ q. either (λ there. inl there) (λ was. inr (in_piece n i gs (is_piece p m gs (eqb-true m a b) has h) was)) (left hs n q)) (λ q. inr q) (groups_stay (Some m) n gs h k)) e)
          (first_or (m == n) n m (all_group_names gs) (all_group_names hs) refl (groups_stay (Some m) n gs h) e)

      all_stay : (p : Option ℕ) (n : ℕ) (f : NamedForest) → ReadsIn r p f → among n (all_names f) ≡ true → Stays n (all_names (changed_in a (with_groups g) f))
      all_stay p n nothing_named h e = absurd (cc)
      all_stay p n (named_then x f) h e =
          let us = node_names (changed a (with_groups g) x) in
          let vs = all_names (changed_in a (with_groups g) f) in
          either (λ k. either (λ q. inl (among-left n us vs q)) (λ q. inr q) (node_stays p n x h.0 h.1 k)) (λ k. either (λ q. inl (among-right n us vs q)) (λ q. inr q) (all_stay p n f h.2 k))
          (among-append n (node_names x) (all_names f) e)

      groups_stay : (p : Option ℕ) (n : ℕ) (gs : NamedGroups) → ReadsGroups r p gs → among n (all_group_names gs) ≡ true → Stays n (all_group_names (changed_groups a (with_groups g) gs))
      groups_stay p n no_groups h e = absurd (cc)
      groups_stay p n (group_then f gs) h e =
          let us = all_names (changed_in a (with_groups g) f) in
          let vs = all_group_names (changed_groups a (with_groups g) gs) in
          either (λ k. either (λ q. inl (among-left n us vs q)) (λ q. inr q) (all_stay p n f h.0 k)) (λ k. either (λ q. inl (among-right n us vs q)) (λ q. inr q) (groups_stay p n gs h.1 k))
          (among-append n (all_names f) (all_group_names gs) e)

  -- the document that is left
  holds_less : (d e : Dom) (i : ℕ) (f piece : NamedForest)
      → ((gs : NamedGroups) (n : ℕ) → among n (all_group_names gs) ≡ true → (among n (all_group_names (g gs)) ≡ true) ⊎ (among n (all_names (group_at i gs)) ≡ true))
      → Holds d f → Fewer d e → names_of piece ≡ list_at i (groups_in (rooms d a)) → ReadsIn (rooms d) (Some a) piece → AreGone (rooms e) piece
      → Shows e (changed_in a (with_groups g) f) → Holds e (changed_in a (with_groups g) f)
  holds_less d e i f piece left holds fewer named reads gone shows = record {
    shows = shows;
    all = λ n live. either (λ h. h) (λ none. absurd (let two : true ≡ false = sym live ∙ ap is_some none in cc))
        (all_stay (rooms d) (rooms e) i piece named reads gone left None n f holds.shows.1 (holds.all n (fewer_are_live d e n fewer live)));
    once = fewer-distinct (all_names f) (all_names (changed_in a (with_groups g) f)) (λ n. all_less n f) holds.once;
  }

-- a group is emptied, or taken out
emptied_less : (i : ℕ) (gs : NamedGroups) (n : ℕ) → times n (all_group_names (group_emptied i gs)) ≤ times n (all_group_names gs)
emptied_less i no_groups n = omega arith
emptied_less zero (group_then f gs) n = let e = times-append n (all_names f) (all_group_names gs) in omega (arith, e)
emptied_less (suc i) (group_then f gs) n = parts_below n (all_names f) (all_group_names gs) (all_names f) (all_group_names (group_emptied i gs)) (omega arith) (emptied_less i gs n)

removed_less : (i : ℕ) (gs : NamedGroups) (n : ℕ) → times n (all_group_names (group_removed i gs)) ≤ times n (all_group_names gs)
removed_less i no_groups n = omega arith
removed_less zero (group_then f gs) n = let e = times-append n (all_names f) (all_group_names gs) in omega (arith, e)
removed_less (suc i) (group_then f gs) n = parts_below n (all_names f) (all_group_names gs) (all_names f) (all_group_names (group_removed i gs)) (omega arith) (removed_less i gs n)

emptied_left : (i : ℕ) (gs : NamedGroups) (n : ℕ) → among n (all_group_names gs) ≡ true → (among n (all_group_names (group_emptied i gs)) ≡ true) ⊎ (among n (all_names (group_at i gs)) ≡ true)
emptied_left i no_groups n e = absurd (cc)
emptied_left zero (group_then f gs) n e = either (λ h. inr h) (λ h. inl h) (among-append n (all_names f) (all_group_names gs) e)
emptied_left (suc i) (group_then f gs) n e =
    let us = all_group_names (group_emptied i gs) in
    either (λ h. inl (among-left n (all_names f) us h)) (λ h. either (λ k. inl (among-right n (all_names f) us k)) (λ k. inr k) (emptied_left i gs n h)) (among-append n (all_names f) (all_group_names gs) e)

removed_left : (i : ℕ) (gs : NamedGroups) (n : ℕ) → among n (all_group_names gs) ≡ true → (among n (all_group_names (group_removed i gs)) ≡ true) ⊎ (among n (all_names (group_at i gs)) ≡ true)
removed_left i no_groups n e = absurd (cc)
removed_left zero (group_then f gs) n e = either (λ h. inr h) (λ h. inl h) (among-append n (all_names f) (all_group_names gs) e)
removed_left (suc i) (group_then f gs) n e =
    let us = all_group_names (group_removed i gs) in
    either (λ h. inl (among-left n (all_names f) us h)) (λ h. either (λ k. inl (among-right n (all_names f) us k)) (λ k. inr k) (removed_left i gs n h)) (among-append n (all_names f) (all_group_names gs) e)

pub holds_emptied : HoldsEmptied
holds_emptied d e a i f piece = holds_less a (group_emptied i) (emptied_less i) d e i f piece (emptied_left i)

pub holds_cut : HoldsCut
holds_cut d e a i f holds fewer none = holds_less a (group_removed i) (removed_less i) d e i f nothing_named (removed_left i) holds fewer (sym none) tt tt

-- no node comes or goes
pub holds_same : HoldsSame
holds_same d e f h holds fewer names shows = record {
  shows = shows;
  all = λ n live. ap (among n) names ∙ holds.all n (fewer_are_live d e n fewer live);
  once = subst (λ (ks : List ℕ). IsDistinct nat_eq ks) (sym names) holds.once;
}

-- a change of a node that isn't there changes nothing
module _ (a : ℕ) (k : NamedNode → NamedNode) where
  not_it : (b : Bool) (t : ℕ) (x : NamedNode) → one b + t ≡ 0 → cond b (k x) x ≡ x
  not_it true t x e = absurd (omega (arith, e))
  not_it false t x e = refl

  none_within : (c t : ℕ) → c + t ≡ 0 → t ≡ 0
  none_within c t e = omega (arith, e)

  none_before : (c t : ℕ) → c + t ≡ 0 → c ≡ 0
  none_before c t e = omega (arith, e)

  mutual
    node_still : (x : NamedNode) → times a (node_names x) ≡ 0 → changed a k x ≡ x
    node_still (named_text m t) e = not_it (m == a) 0 (named_text m t) e
    node_still (named_comment m t) e = not_it (m == a) 0 (named_comment m t) e
    node_still (named_element m t ats f) e =
        ap (λ (g : NamedForest). at_name a k (named_element m t ats g)) (all_still f (none_within (one (m == a)) (times a (all_names f)) e))
        ∙ not_it (m == a) (times a (all_names f)) (named_element m t ats f) e
    node_still (named_anchor m gs) e =
        ap (λ (hs : NamedGroups). at_name a k (named_anchor m hs)) (groups_still gs (none_within (one (m == a)) (times a (all_group_names gs)) e))
        ∙ not_it (m == a) (times a (all_group_names gs)) (named_anchor m gs) e

    all_still : (f : NamedForest) → times a (all_names f) ≡ 0 → changed_in a k f ≡ f
    all_still nothing_named e = refl
    all_still (named_then x f) e =
        let sum : times a (node_names x) + times a (all_names f) ≡ 0 = sym (times-append a (node_names x) (all_names f)) ∙ e in
        ap (λ (y : NamedNode). named_then y (changed_in a k f)) (node_still x (none_before (times a (node_names x)) (times a (all_names f)) sum))
        ∙ ap (named_then x) (all_still f (none_within (times a (node_names x)) (times a (all_names f)) sum))

    groups_still : (gs : NamedGroups) → times a (all_group_names gs) ≡ 0 → changed_groups a k gs ≡ gs
    groups_still no_groups e = refl
    groups_still (group_then f gs) e =
        let sum : times a (all_names f) + times a (all_group_names gs) ≡ 0 = sym (times-append a (all_names f) (all_group_names gs)) ∙ e in
        ap (λ (y : NamedForest). group_then y (changed_groups a k gs)) (all_still f (none_before (times a (all_names f)) (times a (all_group_names gs)) sum))
        ∙ ap (group_then f) (groups_still gs (none_within (times a (all_names f)) (times a (all_group_names gs)) sum))

inserted_times : (n i : ℕ) (piece : NamedForest) (gs : NamedGroups) → times n (all_group_names (group_inserted i piece gs)) ≡ times n (all_group_names gs) + times n (all_names piece)
inserted_times n zero piece gs = let e = times-append n (all_names piece) (all_group_names gs) in omega (arith, e)
inserted_times n (suc i) piece no_groups = let e = times-append n (all_names piece) [] in omega (arith, e)
inserted_times n (suc i) piece (group_then f gs) =
    let e = times-append n (all_names f) (all_group_names (group_inserted i piece gs)) in
    let w = times-append n (all_names f) (all_group_names gs) in
    let more = inserted_times n i piece gs in
    omega (arith, e, w, more)

-- a piece comes into the one anchor of a name
module _ (r : Rooms) (a i : ℕ) (x : Room) (ks : List (List ℕ)) (piece : NamedForest) (here : r a ≡ Some x) (shape : x.shape ≡ anchor_shape ks) where
  abbrev k : NamedNode → NamedNode
  k = with_groups (group_inserted i piece)

  is_anchor : (p : Option ℕ) (y : NamedNode) → name_of y ≡ a → HasRoom r p y → shape_of y ≡ anchor_shape ks
  is_anchor p y e has =
      let two : Some x ≡ Some (room_of p y) = sym here ∙ (ap r (sym e) ∙ has.1) in
      let same : x ≡ room_of p y = cc in
      ap (λ (z : Room). z.shape) (sym same) ∙ shape

  sum_grows : (n : ℕ) (xs ys us vs : List ℕ) (more : ℕ) → times n us + times n vs ≡ (times n xs + times n ys) + more → times n (us ++ vs) ≡ times n (xs ++ ys) + more
  sum_grows n xs ys us vs more e = let w = times-append n xs ys in let v = times-append n us vs in omega (arith, e, w, v)

  first_grows : (c s t more : ℕ) → s ≡ t + more → c + s ≡ (c + t) + more
  first_grows c s t more e = omega (arith, e)

  mutual
    node_grows : (p : Option ℕ) (n : ℕ) (y : NamedNode) → HasRoom r p y → ReadsInside r y → times a (node_names y) ≡ 1 → times n (node_names (changed a k y)) ≡ times n (node_names y) + times n (all_names piece)
    node_grows p n (named_text m t) has h once = by_test (m == a) refl once
      where
        by_test : (b : Bool) → (m == a) ≡ b → one b + 0 ≡ 1 → times n (node_names (changed a k (named_text m t))) ≡ times n (m ∷ []) + times n (all_names piece)
        by_test true e o = absurd (let two : text_shape t ≡ anchor_shape ks = is_anchor p (named_text m t) (eqb-true m a e) has in cc)
        by_test false e o = absurd (omega (arith, o))
    node_grows p n (named_comment m t) has h once = by_test (m == a) refl once
      where
        by_test : (b : Bool) → (m == a) ≡ b → one b + 0 ≡ 1 → times n (node_names (changed a k (named_comment m t))) ≡ times n (m ∷ []) + times n (all_names piece)
        by_test true e o = absurd (let two : comment_shape t ≡ anchor_shape ks = is_anchor p (named_comment m t) (eqb-true m a e) has in cc)
        by_test false e o = absurd (omega (arith, o))
    node_grows p n (named_element m t ats f) has h once = by_test (m == a) refl once (all_grow (Some m) n f h)
      where
        by_test : (b : Bool) → (m == a) ≡ b → one b + times a (all_names f) ≡ 1 → (times a (all_names f) ≡ 1 → times n (all_names (changed_in a k f)) ≡ times n (all_names f) + times n (all_names piece)) → times n (node_names (changed a k (named_element m t ats f))) ≡ times n (m ∷ all_names f) + times n (all_names piece)
        by_test true e o more = absurd (let two : element_shape t ats (names_of f) ≡ anchor_shape ks = is_anchor p (named_element m t ats f) (eqb-true m a e) has in cc)
        by_test false e o more =
            rw e (first_grows (one (m == n)) (times n (all_names (changed_in a k f))) (times n (all_names f)) (times n (all_names piece)) (more (omega (arith, o))))
    node_grows p n (named_anchor m gs) has h once = by_test (m == a) refl once (groups_grow (Some m) n gs h)
      where
        by_test : (b : Bool) → (m == a) ≡ b → one b + times a (all_group_names gs) ≡ 1 → (times a (all_group_names gs) ≡ 1 → times n (all_group_names (changed_groups a k gs)) ≡ times n (all_group_names gs) + times n (all_names piece)) → times n (node_names (changed a k (named_anchor m gs))) ≡ times n (m ∷ all_group_names gs) + times n (all_names piece)
        by_test true e o more =
            let same : changed_groups a k gs ≡ gs = groups_still a k gs (omega (arith, o)) in
            rw (e, same) (first_grows (one (m == n)) (times n (all_group_names (group_inserted i piece gs))) (times n (all_group_names gs)) (times n (all_names piece)) (inserted_times n i piece gs))
        by_test false e o more =
            rw e (first_grows (one (m == n)) (times n (all_group_names (changed_groups a k gs))) (times n (all_group_names gs)) (times n (all_names piece)) (more (omega (arith, o))))

    all_grow : (p : Option ℕ) (n : ℕ) (f : NamedForest) → ReadsIn r p f → times a (all_names f) ≡ 1 → times n (all_names (changed_in a k f)) ≡ times n (all_names f) + times n (all_names piece)
    all_grow p n nothing_named h once = absurd (omega (arith, once))
    all_grow p n (named_then y f) h once =
        sum_grows n (node_names y) (all_names f) (node_names (changed a k y)) (all_names (changed_in a k f)) (times n (all_names piece)) (by_number (times a (node_names y)) refl (node_grows p n y h.0 h.1) (all_grow p n f h.2))
      where
        sum : times a (node_names y) + times a (all_names f) ≡ 1
        sum = sym (times-append a (node_names y) (all_names f)) ∙ once

        by_number : (t : ℕ) → times a (node_names y) ≡ t → (times a (node_names y) ≡ 1 → times n (node_names (changed a k y)) ≡ times n (node_names y) + times n (all_names piece)) → (times a (all_names f) ≡ 1 → times n (all_names (changed_in a k f)) ≡ times n (all_names f) + times n (all_names piece)) → times n (node_names (changed a k y)) + times n (all_names (changed_in a k f)) ≡ (times n (node_names y) + times n (all_names f)) + times n (all_names piece)
        by_number zero e first second =
            let same : times n (node_names (changed a k y)) ≡ times n (node_names y) = ap (λ (z : NamedNode). times n (node_names z)) (node_still a k y e) in
            let more = second (omega (arith, e, sum)) in
            omega (arith, same, more)
        by_number (suc t) e first second =
            let same : times n (all_names (changed_in a k f)) ≡ times n (all_names f) = ap (λ (g : NamedForest). times n (all_names g)) (all_still a k f (omega (arith, e, sum))) in
            let more = first (omega (arith, e, sum)) in
            omega (arith, same, more)

    groups_grow : (p : Option ℕ) (n : ℕ) (gs : NamedGroups) → ReadsGroups r p gs → times a (all_group_names gs) ≡ 1 → times n (all_group_names (changed_groups a k gs)) ≡ times n (all_group_names gs) + times n (all_names piece)
    groups_grow p n no_groups h once = absurd (omega (arith, once))
    groups_grow p n (group_then f gs) h once =
        sum_grows n (all_names f) (all_group_names gs) (all_names (changed_in a k f)) (all_group_names (changed_groups a k gs)) (times n (all_names piece)) (by_number (times a (all_names f)) refl (all_grow p n f h.0) (groups_grow p n gs h.1))
      where
        sum : times a (all_names f) + times a (all_group_names gs) ≡ 1
        sum = sym (times-append a (all_names f) (all_group_names gs)) ∙ once

        by_number : (t : ℕ) → times a (all_names f) ≡ t → (times a (all_names f) ≡ 1 → times n (all_names (changed_in a k f)) ≡ times n (all_names f) + times n (all_names piece)) → (times a (all_group_names gs) ≡ 1 → times n (all_group_names (changed_groups a k gs)) ≡ times n (all_group_names gs) + times n (all_names piece)) → times n (all_names (changed_in a k f)) + times n (all_group_names (changed_groups a k gs)) ≡ (times n (all_names f) + times n (all_group_names gs)) + times n (all_names piece)
        by_number zero e first second =
            let same : times n (all_names (changed_in a k f)) ≡ times n (all_names f) = ap (λ (g : NamedForest). times n (all_names g)) (all_still a k f e) in
            let more = second (omega (arith, e, sum)) in
            omega (arith, same, more)
        by_number (suc t) e first second =
            let same : times n (all_group_names (changed_groups a k gs)) ≡ times n (all_group_names gs) = ap (λ (hs : NamedGroups). times n (all_group_names hs)) (groups_still a k gs (omega (arith, e, sum))) in
            let more = first (omega (arith, e, sum)) in
            omega (arith, same, more)

pub holds_inserted : HoldsInserted
holds_inserted d e a i x ks f piece shown here shape there all once fewer shows = record {
  shows = shows;
  all = λ n live. back n (all n (fewer_are_live d e n fewer live));
  once = times-distinct (all_names (changed_in a (with_groups (group_inserted i piece)) f))
      (λ n. let sum = grown n in let both = times-append n (all_names f) (all_names piece) in let le = distinct-times n (all_names f ++ all_names piece) once in omega (arith, sum, both, le));
}
  where
    one_anchor : times a (all_names f) ≡ 1
    one_anchor =
        let some = among-times a (all_names f) there in
        let both = times-append a (all_names f) (all_names piece) in
        let le = distinct-times a (all_names f ++ all_names piece) once in
        omega (arith, some, both, le)

    grown : (n : ℕ) → times n (all_names (changed_in a (with_groups (group_inserted i piece)) f)) ≡ times n (all_names f) + times n (all_names piece)
    grown n = all_grow (rooms d) a i x ks piece here shape None n f shown.1 one_anchor

    back : (n : ℕ) → among n (all_names f ++ all_names piece) ≡ true → among n (all_names (changed_in a (with_groups (group_inserted i piece)) f)) ≡ true
    back n is =
        let sum = grown n in
        let both = times-append n (all_names f) (all_names piece) in
        let some = among-times n (all_names f ++ all_names piece) is in
        times-among n (all_names (changed_in a (with_groups (group_inserted i piece)) f)) (omega (arith, sum, both, some))
