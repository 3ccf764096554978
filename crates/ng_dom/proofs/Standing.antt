-- The node at a path is the one that the table has there.
use Rattle.std.proofs.Common.{◌≡◌, ◌<◌, ◌≤◌, ◌+◌, ℕ, zero, suc, false, List, [], ◌∷◌, ◌++◌, length, map, Option, Some, None, refl, ap, ◌∙◌, sym, subst, arith}
use Rattle.std.specs.Prelude.{option_map, option_and_then, is_some}
use Rattle.ng_markup.specs.Forest.{Forest, Node, comment, no_nodes, node}
use Rattle.ng_dom.specs.Records.{Runs, node_at}
use Rattle.ng_dom.specs.Nodes.{NamedNode, NamedForest, NamedGroups, named_text, named_comment, named_element, named_anchor, nothing_named, named_then, no_groups, group_then, name_of, names_of, followed_by, plain_node, plain, plain_groups}
use Rattle.ng_dom.specs.Rooms.{Rooms, shape_of, HasRoom, ReadsInside, ReadsIn, ReadsGroups}
use Rattle.ng_dom.specs.Asked.{shape_kids, kids_in}
use Rattle.ng_dom.specs.Walks.{read, read_all}
use Rattle.ng_dom.specs.Kept.{rooms_of}
use Rattle.ng_dom.specs.Printed.{level_node, level, level_groups, inner, nth_of, went, at_place, followed, IsRead, seek, found, plain_node_of, nodes_of, inside_plain, plain_went}
use Rattle.ng_dom.specs.Laws.{PlacesArePrinted}
use Rattle.ng_dom.specs.declared.seeking.Sought.TheVariants.{Found, Left}
use Rattle.ng_dom.proofs.Adding.{room_below}
use Rattle.ng_dom.proofs.WithId.{read_forest, read_top}

-- the place that is sought
pub found-seek : (i : ℕ) (xs : List NamedNode) → found (seek None i xs) ≡ option_map name_of (nth_of i xs)
found-seek i [] = refl
found-seek zero (x ∷ xs) = refl
found-seek (suc i) (x ∷ xs) = found-seek i xs

-- how many places are left
pub left-seek : (j : ℕ) (xs : List NamedNode) (i : ℕ) → seek None j xs ≡ Left i → length xs + i ≡ j
left-seek j [] i e = let one : j ≡ i = cc in omega arith
left-seek zero (x ∷ xs) i e = absurd (cc)
left-seek (suc j) (x ∷ xs) i e = let h = left-seek j xs i e in omega arith

pub past-seek : (j : ℕ) (xs : List NamedNode) (m i : ℕ) → seek None j xs ≡ Found m i → j < length xs
past-seek j [] m i e = absurd (cc)
past-seek zero (x ∷ xs) m i e = omega arith
past-seek (suc j) (x ∷ xs) m i e = let h = past-seek j xs m i e in omega arith

abbrev AllRead : Rooms → List NamedNode → Type 0
AllRead r [] = Unit {0}
AllRead r (x ∷ xs) = IsRead r x × AllRead r xs

all-append : (r : Rooms) (xs ys : List NamedNode) → AllRead r xs → AllRead r ys → AllRead r (xs ++ ys)
all-append r [] ys h k = k
all-append r (x ∷ xs) ys h k = (h.0, all-append r xs ys h.1 k)

mutual
  node_read : (r : Rooms) (p : Option ℕ) (x : NamedNode) → HasRoom r p x → ReadsInside r x → AllRead r (level_node x)
  node_read r p (named_text n t) has h = (record { parent = p; room = has; inside = h }, tt)
  node_read r p (named_comment n t) has h = (record { parent = p; room = has; inside = h }, tt)
  node_read r p (named_element n e ats f) has h = (record { parent = p; room = has; inside = h }, tt)
  node_read r p (named_anchor n gs) has h = (record { parent = p; room = has; inside = h }, groups_read r (Some n) gs h)

  level_read : (r : Rooms) (p : Option ℕ) (f : NamedForest) → ReadsIn r p f → AllRead r (level f)
  level_read r p nothing_named h = tt
  level_read r p (named_then x f) h = all-append r (level_node x) (level f) (node_read r p x h.0 h.1) (level_read r p f h.2)

  groups_read : (r : Rooms) (p : Option ℕ) (gs : NamedGroups) → ReadsGroups r p gs → AllRead r (level_groups gs)
  groups_read r p no_groups h = tt
  groups_read r p (group_then f gs) h = all-append r (level f) (level_groups gs) (level_read r p f h.0) (groups_read r p gs h.1)

nth_read : (r : Rooms) (i : ℕ) (xs : List NamedNode) (x : NamedNode) → AllRead r xs → nth_of i xs ≡ Some x → IsRead r x
nth_read r i [] x h e = absurd (cc)
nth_read r zero (y ∷ xs) x h e = let one : y ≡ x = cc in let P : NamedNode → Type 0 = λ z. IsRead r z in subst P one h.0
nth_read r (suc i) (y ∷ xs) x h e = nth_read r i xs x h.1 e

-- what a node that is read holds is read
kids_read : (r : Rooms) (x : NamedNode) → ReadsInside r x → ReadsIn r (Some (name_of x)) (inner x)
kids_read r (named_text n t) h = tt
kids_read r (named_comment n t) h = tt
kids_read r (named_element n e ats f) h = h
kids_read r (named_anchor n gs) h = tt

kids_names : (x : NamedNode) → shape_kids (shape_of x) ≡ names_of (inner x)
kids_names (named_text n t) = refl
kids_names (named_comment n t) = refl
kids_names (named_element n e ats f) = refl
kids_names (named_anchor n gs) = refl

went_none : (p : List ℕ) → went None p ≡ None
went_none [] = refl
went_none (i ∷ p) = went_none p

-- a document whose names are below the next one
module _ (nodes : Runs) (next : ℕ) (fresh : (q : ℕ) → next ≤ q → is_some (node_at nodes q) ≡ false) where
  abbrev r : Rooms
  r = rooms_of nodes

  pub top_level : (names : List ℕ) (f : NamedForest) → names ≡ names_of f → ReadsIn r None f → level (read_all (read next r) names) ≡ level f
  top_level names f was h = ap level (ap (read_all (read next r)) was ∙ read_top r next (room_below nodes next fresh) next f (omega arith) h)

  pub inner_level : (x : NamedNode) → IsRead r x → level (read_all (read next r) (kids_in (r (name_of x)))) ≡ level (inner x)
  inner_level x h =
      ap level
      (ap (read_all (read next r)) (ap kids_in h.room.1 ∙ kids_names x)
      ∙ read_forest r next (room_below nodes next fresh) next (name_of x) (inner x) (omega arith) (kids_read r x h.inside))

  -- the numbers of a path are followed in the table
  module _ (child : Option ℕ → ℕ → Option ℕ) (under : (n i : ℕ) → child (Some n) i ≡ found (seek None i (level (read_all (read next r) (kids_in (r n)))))) where
    by_nth : (p : List ℕ) (o : Option NamedNode) → ((y : NamedNode) → o ≡ Some y → followed child (Some (name_of y)) p ≡ option_map name_of (went (Some y) p))
        → option_and_then (λ n. followed child (Some n) p) (option_map name_of o) ≡ option_map name_of (went o p)
    by_nth p None h = ap (option_map name_of) (sym (went_none p))
    by_nth p (Some y) h = h y refl

    followed_on : (p : List ℕ) (x : NamedNode) → IsRead r x → followed child (Some (name_of x)) p ≡ option_map name_of (went (Some x) p)
    followed_on [] x h = refl
    followed_on (i ∷ p) x h =
        let kids = level_read r (Some (name_of x)) (inner x) (kids_read r x h.inside) in
        let step : child (Some (name_of x)) i ≡ option_map name_of (nth_of i (level (inner x))) = under (name_of x) i ∙ (ap (λ (xs : List NamedNode). found (seek None i xs)) (inner_level x h) ∙ found-seek i (level (inner x))) in
        ap (option_and_then (λ n. followed child (Some n) p)) step
        ∙ by_nth p (nth_of i (level (inner x))) (λ y e. followed_on p y (nth_read r i (level (inner x)) y kids e))

    pub followed_place : (names : List ℕ) (f : NamedForest) → names ≡ names_of f → ReadsIn r None f → ((i : ℕ) → child None i ≡ found (seek None i (level (read_all (read next r) names))))
        → (p : List ℕ) → followed child None p ≡ option_map name_of (at_place p f)
    followed_place names f was h top [] = refl
    followed_place names f was h top (i ∷ p) =
        let step : child None i ≡ option_map name_of (nth_of i (level f)) = top i ∙ (ap (λ (xs : List NamedNode). found (seek None i xs)) (top_level names f was h) ∙ found-seek i (level f)) in
        ap (option_and_then (λ n. followed child (Some n) p)) step
        ∙ by_nth p (nth_of i (level f)) (λ y e. followed_on p y (nth_read r i (level f) y (level_read r None f h) e))

-- the nodes of the plain forest, one beside another
nodes-followed : (f g : Forest) → nodes_of (followed_by f g) ≡ nodes_of f ++ nodes_of g
nodes-followed no_nodes g = refl
nodes-followed (node x f) g = ap (λ (ys : List Node). x ∷ ys) (nodes-followed f g)

map-both : (xs ys : List NamedNode) → map plain_node_of (xs ++ ys) ≡ map plain_node_of xs ++ map plain_node_of ys
map-both [] ys = refl
map-both (x ∷ xs) ys = ap (λ (zs : List Node). plain_node_of x ∷ zs) (map-both xs ys)

mutual
  node_level : (x : NamedNode) → nodes_of (plain_node x) ≡ map plain_node_of (level_node x)
  node_level (named_text n t) = refl
  node_level (named_comment n t) = refl
  node_level (named_element n e ats f) = refl
  node_level (named_anchor n gs) = ap (λ (ys : List Node). comment [] ∷ ys) (groups_level gs)

  plain_level : (f : NamedForest) → nodes_of (plain f) ≡ map plain_node_of (level f)
  plain_level nothing_named = refl
  plain_level (named_then x f) =
      nodes-followed (plain_node x) (plain f)
      ∙ (ap (λ (ys : List Node). ys ++ nodes_of (plain f)) (node_level x)
      ∙ (ap (λ (ys : List Node). map plain_node_of (level_node x) ++ ys) (plain_level f) ∙ sym (map-both (level_node x) (level f))))

  groups_level : (gs : NamedGroups) → nodes_of (plain_groups gs) ≡ map plain_node_of (level_groups gs)
  groups_level no_groups = refl
  groups_level (group_then f gs) =
      nodes-followed (plain f) (plain_groups gs)
      ∙ (ap (λ (ys : List Node). ys ++ nodes_of (plain_groups gs)) (plain_level f)
      ∙ (ap (λ (ys : List Node). map plain_node_of (level f) ++ ys) (groups_level gs) ∙ sym (map-both (level f) (level_groups gs))))

nth-map : (i : ℕ) (xs : List NamedNode) → nth_of i (map plain_node_of xs) ≡ option_map plain_node_of (nth_of i xs)
nth-map i [] = refl
nth-map zero (x ∷ xs) = refl
nth-map (suc i) (x ∷ xs) = nth-map i xs

inside_level : (x : NamedNode) → inside_plain (plain_node_of x) ≡ map plain_node_of (level (inner x))
inside_level (named_text n t) = refl
inside_level (named_comment n t) = refl
inside_level (named_element n e ats f) = plain_level f
inside_level (named_anchor n gs) = refl

went_plain : (p : List ℕ) (o : Option NamedNode) → plain_went (option_map plain_node_of o) p ≡ option_map plain_node_of (went o p)
went_plain [] o = refl
went_plain (i ∷ p) None = went_plain p None
went_plain (i ∷ p) (Some x) =
    ap (λ (o : Option Node). plain_went o p) (ap (nth_of i) (inside_level x) ∙ nth-map i (level (inner x))) ∙ went_plain p (nth_of i (level (inner x)))

pub places_are_printed : PlacesArePrinted
places_are_printed [] f = refl
places_are_printed (i ∷ p) f = ap (λ (o : Option Node). plain_went o p) (ap (nth_of i) (plain_level f) ∙ nth-map i (level f)) ∙ went_plain p (nth_of i (level f))
