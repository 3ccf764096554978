-- The node at a path is an element where its room in the table says so.
use Rattle.std.proofs.Common.{◌≡◌, ℕ, zero, suc, Bool, List, [], ◌∷◌, ◌++◌, Option, Some, None, ap, ◌∙◌, subst, cond, refl}
use Rattle.std.specs.Prelude.{option_map, option_and_then}
use Rattle.ng_dom.specs.Asked.{is_element_shape, is_element_room}
use Rattle.ng_dom.specs.Nodes.{NamedNode, NamedForest, NamedGroups, named_text, named_comment, named_element, named_anchor, nothing_named, named_then, no_groups, group_then, name_of}
use Rattle.ng_dom.specs.Printed.{level_node, level, level_groups, inner, nth_of, went, at_place, IsRead}
use Rattle.ng_dom.specs.Rooms.{Rooms, shape_of, HasRoom, ReadsInside, ReadsIn, ReadsGroups}
use Rattle.ng_page.specs.Targets.{element_name}

module _ (r : Rooms) where
  abbrev AllRead : List NamedNode → Type 0
  AllRead [] = Unit {0}
  AllRead (x ∷ xs) = IsRead r x × AllRead xs

  all_after : (xs ys : List NamedNode) → AllRead xs → AllRead ys → AllRead (xs ++ ys)
  all_after [] ys h k = k
  all_after (x ∷ xs) ys h k = (h.0, all_after xs ys h.1 k)

  mutual
    node_read : (p : Option ℕ) (x : NamedNode) → HasRoom r p x → ReadsInside r x → AllRead (level_node x)
    node_read p (named_text n t) has h = (record { parent = p; room = has; inside = h }, tt)
    node_read p (named_comment n t) has h = (record { parent = p; room = has; inside = h }, tt)
    node_read p (named_element n e ats f) has h = (record { parent = p; room = has; inside = h }, tt)
    node_read p (named_anchor n gs) has h = (record { parent = p; room = has; inside = h }, groups_read (Some n) gs h)

    level_read : (p : Option ℕ) (f : NamedForest) → ReadsIn r p f → AllRead (level f)
    level_read p nothing_named h = tt
    level_read p (named_then x f) h = all_after (level_node x) (level f) (node_read p x h.0 h.1) (level_read p f h.2)

    groups_read : (p : Option ℕ) (gs : NamedGroups) → ReadsGroups r p gs → AllRead (level_groups gs)
    groups_read p no_groups h = tt
    groups_read p (group_then f gs) h = all_after (level f) (level_groups gs) (level_read p f h.0) (groups_read p gs h.1)

  nth_read : (i : ℕ) (xs : List NamedNode) (x : NamedNode) → AllRead xs → nth_of i xs ≡ Some x → IsRead r x
  nth_read i [] x h e = absurd (cc)
  nth_read zero (y ∷ xs) x h e = let one : y ≡ x = cc in let P : NamedNode → Type 0 = λ z. IsRead r z in subst P one h.0
  nth_read (suc i) (y ∷ xs) x h e = nth_read i xs x h.1 e

  -- what a node that is read holds is read
  kids_read : (x : NamedNode) → ReadsInside r x → ReadsIn r (Some (name_of x)) (inner x)
  kids_read (named_text n t) h = tt
  kids_read (named_comment n t) h = tt
  kids_read (named_element n e ats f) h = h
  kids_read (named_anchor n gs) h = tt

  -- the node that a path leads to is read
  went_read : (p : List ℕ) (o : Option NamedNode) (x : NamedNode) → ((y : NamedNode) → o ≡ Some y → IsRead r y) → went o p ≡ Some x → IsRead r x
  went_read [] o x h e = h x e
  went_read (i ∷ p) o x h e = went_read p (option_and_then (λ y. nth_of i (level (inner y))) o) x (inside o h) e
    where
      inside : (o : Option NamedNode) → ((y : NamedNode) → o ≡ Some y → IsRead r y) → (z : NamedNode) → option_and_then (λ y. nth_of i (level (inner y))) o ≡ Some z → IsRead r z
      inside None h z e = absurd (cc)
      inside (Some y) h z e = nth_read i (level (inner y)) z (level_read (Some (name_of y)) (inner y) (kids_read y (h y refl).inside)) e

  place_read : (p : List ℕ) (f : NamedForest) (x : NamedNode) → ReadsIn r None f → at_place p f ≡ Some x → IsRead r x
  place_read [] f x h e = absurd (cc)
  place_read (i ∷ p) f x h e = went_read p (nth_of i (level f)) x (λ y. nth_read i (level f) y (level_read None f h)) e

  named_so : (n : ℕ) (x : NamedNode) (b : Bool) → n ≡ name_of x → b ≡ is_element_shape (shape_of x) → cond b (Some n) None ≡ element_name (Some x)
  named_so n (named_text m t) b e is = ap (λ c. cond c (Some n) None) is
  named_so n (named_comment m t) b e is = ap (λ c. cond c (Some n) None) is
  named_so n (named_element m a ats f) b e is = ap (λ c. cond c (Some n) None) is ∙ ap (λ k. Some k) e
  named_so n (named_anchor m gs) b e is = ap (λ c. cond c (Some n) None) is

  -- the name at a path is that of an element, where its room says so
  pub element_there : (p : List ℕ) (f : NamedForest) (n : ℕ) (b : Bool) → ReadsIn r None f → Some n ≡ option_map name_of (at_place p f) → b ≡ is_element_room (r n) → cond b (Some n) None ≡ element_name (at_place p f)
  element_there p f n b h there is = by_node (at_place p f) refl there
    where
      by_node : (o : Option NamedNode) → at_place p f ≡ o → Some n ≡ option_map name_of o → cond b (Some n) None ≡ element_name o
      by_node None e g = absurd (cc)
      by_node (Some x) e g =
          let same : n ≡ name_of x = cc in
          let read : IsRead r x = place_read p f x h e in
          named_so n x b same (is ∙ (ap (λ k. is_element_room (r k)) same ∙ ap is_element_room read.room.1))
