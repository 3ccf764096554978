-- Names that differ stand apart.
use Rattle.std.proofs.Common.{◌≡◌, ℕ, zero, suc, Bool, true, false, List, [], ◌∷◌, ◌++◌, Option, Some, None, refl, ap, ◌∙◌, sym, cond, is_some, IsSome}
use Rattle.std.specs.Prelude.{◌==◌, nat_eq}
use Rattle.std.specs.List.{AllByRecursion, IsDistinct}
use Rattle.std.proofs.lemmas.Bool.{eqb-true, eq-eqb, false_from_ne_true}
use Rattle.std.proofs.lemmas.Map.Keys.{IsDistinct-head, IsDistinct-tail, IsDistinct-cons}
use Rattle.ng_dom.specs.Laws.{NamesAreLive, NamesAreGone, GroupsStandApart}
use Rattle.ng_dom.specs.Lists.{among, list_at, without_at}
use Rattle.ng_dom.specs.Nodes.{NamedNode, NamedForest, NamedGroups, named_text, named_comment, named_element, named_anchor, nothing_named, named_then, no_groups, group_then, name_of, names_of, group_names, node_names, all_names, all_group_names}
use Rattle.ng_dom.specs.Removal.{all_of, groups_in, AreGone, GoneInside, GoneGroups, IsApartFromOthers}
use Rattle.ng_dom.specs.Rooms.{Room, Rooms, room_of, HasRoom, ReadsInside, ReadsIn, ReadsGroups}
use Rattle.ng_dom.proofs.Removing.{either, among-append, among-left, among-right}

-- each name of what is read has a room
module _ (r : Rooms) (n : ℕ) where
  first_by : (b : Bool) (p : Option ℕ) (x : NamedNode) (ks : List ℕ) → (name_of x == n) ≡ b → HasRoom r p x → (among n ks ≡ true → IsSome (r n)) → cond b true (among n ks) ≡ true → IsSome (r n)
  first_by true p x ks t has more e = ap (λ (m : ℕ). is_some (r m)) (sym (eqb-true (name_of x) n t)) ∙ ap is_some has.1
  first_by false p x ks t has more e = more e

  mutual
    node_room : (p : Option ℕ) (x : NamedNode) → HasRoom r p x → ReadsInside r x → among n (node_names x) ≡ true → IsSome (r n)
    node_room p (named_text m t) has h e = first_by (m == n) p (named_text m t) [] refl has (λ k. absurd (cc)) e
    node_room p (named_comment m t) has h e = first_by (m == n) p (named_comment m t) [] refl has (λ k. absurd (cc)) e
    node_room p (named_element m t ats f) has h e = first_by (m == n) p (named_element m t ats f) (all_names f) refl has (all_rooms (Some m) f h) e
    node_room p (named_anchor m gs) has h e = first_by (m == n) p (named_anchor m gs) (all_group_names gs) refl has (group_rooms (Some m) gs h) e

    pub all_rooms : (p : Option ℕ) (f : NamedForest) → ReadsIn r p f → among n (all_names f) ≡ true → IsSome (r n)
    all_rooms p nothing_named h e = absurd (cc)
    all_rooms p (named_then x f) h e = either (node_room p x h.0 h.1) (all_rooms p f h.2) (among-append n (node_names x) (all_names f) e)

    group_rooms : (p : Option ℕ) (gs : NamedGroups) → ReadsGroups r p gs → among n (all_group_names gs) ≡ true → IsSome (r n)
    group_rooms p no_groups h e = absurd (cc)
    group_rooms p (group_then f gs) h e = either (all_rooms p f h.0) (group_rooms p gs h.1) (among-append n (all_names f) (all_group_names gs) e)

pub names_are_live : NamesAreLive
names_are_live r p f n reads e = all_rooms r n p f reads e

-- each name of what is gone has none
module _ (s : Rooms) (n : ℕ) where
  gone_by : (b : Bool) (m : ℕ) (ks : List ℕ) → (m == n) ≡ b → s m ≡ None → (among n ks ≡ true → s n ≡ None) → cond b true (among n ks) ≡ true → s n ≡ None
  gone_by true m ks t gone more e = ap s (sym (eqb-true m n t)) ∙ gone
  gone_by false m ks t gone more e = more e

  mutual
    node_gone : (x : NamedNode) → s (name_of x) ≡ None → GoneInside s x → among n (node_names x) ≡ true → s n ≡ None
    node_gone (named_text m t) gone h e = gone_by (m == n) m [] refl gone (λ k. absurd (cc)) e
    node_gone (named_comment m t) gone h e = gone_by (m == n) m [] refl gone (λ k. absurd (cc)) e
    node_gone (named_element m t ats f) gone h e = gone_by (m == n) m (all_names f) refl gone (all_gone f h) e
    node_gone (named_anchor m gs) gone h e = gone_by (m == n) m (all_group_names gs) refl gone (groups_gone gs h) e

    all_gone : (f : NamedForest) → AreGone s f → among n (all_names f) ≡ true → s n ≡ None
    all_gone nothing_named h e = absurd (cc)
    all_gone (named_then x f) h e = either (node_gone x h.0 h.1) (all_gone f h.2) (among-append n (node_names x) (all_names f) e)

    groups_gone : (gs : NamedGroups) → GoneGroups s gs → among n (all_group_names gs) ≡ true → s n ≡ None
    groups_gone no_groups h e = absurd (cc)
    groups_gone (group_then f gs) h e = either (all_gone f h.0) (groups_gone gs h.1) (among-append n (all_names f) (all_group_names gs) e)

pub names_are_gone : NamesAreGone
names_are_gone s f n gone e = all_gone s n f gone e

-- what differs from a name isn't that name
pub not_among : (n : ℕ) (ks : List ℕ) → AllByRecursion (λ k. nat_eq n k ≡ false) ks → among n ks ≡ true → ⊥
not_among n [] h e = cc
not_among n (k ∷ ks) h e = by_test (k == n) refl e (not_among n ks h.1)
  where
    by_test : (b : Bool) → (k == n) ≡ b → cond b true (among n ks) ≡ true → (among n ks ≡ true → ⊥) → ⊥
    by_test true t q more = let two : true ≡ false = sym (eq-eqb n k (sym (eqb-true k n t))) ∙ h.0 in cc
    by_test false t q more = more q

-- two lists whose names differ share none, and the names of each differ
parted : (n : ℕ) (xs ys : List ℕ) → IsDistinct nat_eq (xs ++ ys) → among n xs ≡ true → among n ys ≡ true → ⊥
parted n [] ys d e h = cc
parted n (x ∷ xs) ys d e h = by_test (x == n) refl e (λ q. parted n xs ys (IsDistinct-tail nat_eq x (xs ++ ys) d) q h)
  where
    by_test : (b : Bool) → (x == n) ≡ b → cond b true (among n xs) ≡ true → (among n xs ≡ true → ⊥) → ⊥
    by_test true t q more = not_among x (xs ++ ys) (IsDistinct-head nat_eq x (xs ++ ys) d) (among-right x xs ys (ap (λ (k : ℕ). among k ys) (eqb-true x n t) ∙ h))
    by_test false t q more = more q

all-left : (P : ℕ → Type 0) (xs ys : List ℕ) → AllByRecursion P (xs ++ ys) → AllByRecursion P xs
all-left P [] ys h = tt
all-left P (x ∷ xs) ys h = (h.0, all-left P xs ys h.1)

distinct-left : (xs ys : List ℕ) → IsDistinct nat_eq (xs ++ ys) → IsDistinct nat_eq xs
unfolding IsDistinct
distinct-left [] ys d = tt
distinct-left (x ∷ xs) ys d =
    IsDistinct-cons nat_eq x xs (all-left (λ y. nat_eq x y ≡ false) xs ys (IsDistinct-head nat_eq x (xs ++ ys) d)) (distinct-left xs ys (IsDistinct-tail nat_eq x (xs ++ ys) d))

distinct-right : (xs ys : List ℕ) → IsDistinct nat_eq (xs ++ ys) → IsDistinct nat_eq ys
distinct-right [] ys d = d
distinct-right (x ∷ xs) ys d = distinct-right xs ys (IsDistinct-tail nat_eq x (xs ++ ys) d)

-- the names at the top are among all names
first_among : (n : ℕ) (x : NamedNode) (ks : List ℕ) → (name_of x == n) ≡ true → among n (node_names x ++ ks) ≡ true
first_among n (named_text m t) ks e = rw e refl
first_among n (named_comment m t) ks e = rw e refl
first_among n (named_element m t ats f) ks e = rw e refl
first_among n (named_anchor m gs) ks e = rw e refl

top_among : (n : ℕ) (f : NamedForest) → among n (names_of f) ≡ true → among n (all_names f) ≡ true
top_among n nothing_named e = absurd (cc)
top_among n (named_then x f) e = by_test (name_of x == n) refl e (top_among n f)
  where
    by_test : (b : Bool) → (name_of x == n) ≡ b → cond b true (among n (names_of f)) ≡ true → (among n (names_of f) ≡ true → among n (all_names f) ≡ true) → among n (node_names x ++ all_names f) ≡ true
    by_test true t q more = first_among n x (all_names f) t
    by_test false t q more = among-right n (node_names x) (all_names f) (more q)

one_among : (n i : ℕ) (gs : NamedGroups) → among n (list_at i (group_names gs)) ≡ true → among n (all_group_names gs) ≡ true
one_among n i no_groups e = absurd (cc)
one_among n zero (group_then f gs) e = among-left n (all_names f) (all_group_names gs) (top_among n f e)
one_among n (suc i) (group_then f gs) e = among-right n (all_names f) (all_group_names gs) (one_among n i gs e)

each_among : (n : ℕ) (gs : NamedGroups) → among n (all_of (group_names gs)) ≡ true → among n (all_group_names gs) ≡ true
each_among n no_groups e = absurd (cc)
each_among n (group_then f gs) e =
    either (λ h. among-left n (all_names f) (all_group_names gs) (top_among n f h)) (λ h. among-right n (all_names f) (all_group_names gs) (each_among n gs h))
    (among-append n (names_of f) (all_of (group_names gs)) e)

-- a group has no name of another
two_groups : (n i : ℕ) (gs : NamedGroups) → IsDistinct nat_eq (all_group_names gs) → among n (list_at i (group_names gs)) ≡ true → among n (all_of (without_at i (group_names gs))) ≡ true → ⊥
two_groups n i no_groups d e h = cc
two_groups n zero (group_then f gs) d e h = parted n (all_names f) (all_group_names gs) d (top_among n f e) (each_among n gs h)
two_groups n (suc i) (group_then f gs) d e h =
    either (λ k. parted n (all_names f) (all_group_names gs) d (top_among n f k) (one_among n i gs e)) (λ k. two_groups n i gs (distinct-right (all_names f) (all_group_names gs) d) e k)
    (among-append n (names_of f) (all_of (without_at i (group_names gs))) h)

module _ (r : Rooms) (a i : ℕ) where
  abbrev IsGood : Type 0
  IsGood = IsApartFromOthers i (groups_in (r a))

  -- only an anchor has groups
  no_group : (p : Option ℕ) (x : NamedNode) → name_of x ≡ a → HasRoom r p x → list_at i (groups_in (Some (room_of p x))) ≡ [] → IsGood
  no_group p x e has none = λ q h. absurd (emptied q h)
    where
      emptied : (q : ℕ) → among q (list_at i (groups_in (r a))) ≡ true → ⊥
      emptied q h =
          let here : r a ≡ Some (room_of p x) = ap r (sym e) ∙ has.1 in
          let two : true ≡ false = sym h ∙ ap (among q) (ap (λ (o : Option Room). list_at i (groups_in o)) here ∙ none) in
          cc

  its_groups : (p : Option ℕ) (m : ℕ) (gs : NamedGroups) → m ≡ a → HasRoom r p (named_anchor m gs) → IsDistinct nat_eq (all_group_names gs) → IsGood
  its_groups p m gs e has d =
      let here : r a ≡ Some (room_of p (named_anchor m gs)) = ap r (sym e) ∙ has.1 in
      rw here (λ q h. false_from_ne_true (among q (all_of (without_at i (group_names gs)))) (two_groups q i gs d h))

  node_by : (b : Bool) (p : Option ℕ) (x : NamedNode) (ks : List ℕ) → (name_of x == a) ≡ b → (name_of x ≡ a → IsGood) → (among a ks ≡ true → IsGood) → cond b true (among a ks) ≡ true → IsGood
  node_by true p x ks t here more e = here (eqb-true (name_of x) a t)
  node_by false p x ks t here more e = more e

  mutual
    at_node : (p : Option ℕ) (x : NamedNode) → HasRoom r p x → ReadsInside r x → IsDistinct nat_eq (node_names x) → among a (node_names x) ≡ true → IsGood
    at_node p (named_text m t) has h d e = node_by (m == a) p (named_text m t) [] refl (λ is. no_group p (named_text m t) is has refl) (λ k. absurd (cc)) e
    at_node p (named_comment m t) has h d e = node_by (m == a) p (named_comment m t) [] refl (λ is. no_group p (named_comment m t) is has refl) (λ k. absurd (cc)) e
    at_node p (named_element m t ats f) has h d e =
        node_by (m == a) p (named_element m t ats f) (all_names f) refl (λ is. no_group p (named_element m t ats f) is has refl) (in_all (Some m) f h (IsDistinct-tail nat_eq m (all_names f) d)) e
    at_node p (named_anchor m gs) has h d e =
        let rest = IsDistinct-tail nat_eq m (all_group_names gs) d in
        node_by (m == a) p (named_anchor m gs) (all_group_names gs) refl (λ is. its_groups p m gs is has rest) (in_groups (Some m) gs h rest) e

    in_all : (p : Option ℕ) (f : NamedForest) → ReadsIn r p f → IsDistinct nat_eq (all_names f) → among a (all_names f) ≡ true → IsGood
    in_all p nothing_named h d e = absurd (cc)
    in_all p (named_then x f) h d e =
        either (at_node p x h.0 h.1 (distinct-left (node_names x) (all_names f) d)) (in_all p f h.2 (distinct-right (node_names x) (all_names f) d))
        (among-append a (node_names x) (all_names f) e)

    in_groups : (p : Option ℕ) (gs : NamedGroups) → ReadsGroups r p gs → IsDistinct nat_eq (all_group_names gs) → among a (all_group_names gs) ≡ true → IsGood
    in_groups p no_groups h d e = absurd (cc)
    in_groups p (group_then f gs) h d e =
        either (in_all p f h.0 (distinct-left (all_names f) (all_group_names gs) d)) (in_groups p gs h.1 (distinct-right (all_names f) (all_group_names gs) d))
        (among-append a (all_names f) (all_group_names gs) e)

pub groups_stand_apart : GroupsStandApart
groups_stand_apart r p f a i reads once e = in_all r a i p f reads once e
