-- A change of one room is a change of the document.
use Rattle.std.proofs.Common.{◌≡◌, ℕ, Bool, true, false, List, ◌∷◌, Option, Some, refl, ap, ◌∙◌, cond}
use Rattle.std.specs.Prelude.{◌==◌}
use Rattle.std.proofs.lemmas.Bool.{eqb-true}
use Rattle.ng_dom.specs.Nodes.{NamedNode, NamedForest, NamedGroups, named_text, named_comment, named_element, named_anchor, nothing_named, named_then, no_groups, group_then, name_of, names_of, group_names}
use Rattle.ng_dom.specs.Editing.{at_name, changed, changed_in, changed_groups}
use Rattle.ng_dom.specs.Rooms.{Shape, Rooms, element_shape, anchor_shape, shape_of, room_of, IsAfter, HasRoom, ReadsInside, ReadsIn, ReadsGroups, room_changed}

module _ (n : ℕ) (g : NamedNode → NamedNode) (named : (x : NamedNode) → name_of (g x) ≡ name_of x) where
  name_at : (x : NamedNode) → name_of (at_name n g x) ≡ name_of x
  name_at x = by_test (name_of x == n)
    where
      by_test : (b : Bool) → name_of (cond b (g x) x) ≡ name_of x
      by_test true = named x
      by_test false = refl

  pub same_name : (x : NamedNode) → name_of (changed n g x) ≡ name_of x
  same_name (named_text m t) = name_at (named_text m t)
  same_name (named_comment m t) = name_at (named_comment m t)
  same_name (named_element m e ats f) = name_at (named_element m e ats (changed_in n g f))
  same_name (named_anchor m gs) = name_at (named_anchor m (changed_groups n g gs))

  pub same_names : (f : NamedForest) → names_of (changed_in n g f) ≡ names_of f
  same_names nothing_named = refl
  same_names (named_then x f) = ap (λ (m : ℕ). m ∷ names_of (changed_in n g f)) (same_name x) ∙ ap (λ (ms : List ℕ). name_of x ∷ ms) (same_names f)

  pub same_groups : (gs : NamedGroups) → group_names (changed_groups n g gs) ≡ group_names gs
  same_groups no_groups = refl
  same_groups (group_then f gs) = ap (λ (m : List ℕ). m ∷ group_names (changed_groups n g gs)) (same_names f) ∙ ap (λ (ms : List (List ℕ)). names_of f ∷ ms) (same_groups gs)

  -- the rooms s are those of r but at the name n, and the change of a node is that of its room
  module _ (h : Shape → Shape) (shaped : (x : NamedNode) → shape_of (g x) ≡ h (shape_of x)) (r s : Rooms) (rooms : (q : ℕ) → s q ≡ room_changed n h r q)
      (inside : (x : NamedNode) → name_of x ≡ n → ReadsInside s x → ReadsInside s (g x)) where
    -- a node of which all inside is read
    at_node : (p : Option ℕ) (x y : NamedNode) → name_of y ≡ name_of x → shape_of y ≡ shape_of x → HasRoom r p x → ReadsInside s y → HasRoom s p (at_name n g y) × ReadsInside s (at_name n g y)
    at_node p x y same shape has below = by_test (name_of y == n) refl
      where
        here : r (name_of y) ≡ Some (room_of p x)
        here = rw same has.1

        after : IsAfter p (name_of y)
        after = rw same has.0

        by_test : (b : Bool) → (name_of y == n) ≡ b → HasRoom s p (cond b (g y) y) × ReadsInside s (cond b (g y) y)
        by_test true e =
            let there : s (name_of y) ≡ Some (record { parent = p; shape = h (shape_of x) }) = rooms (name_of y) ∙ rw (e, here) refl in
            let told : shape_of (g y) ≡ h (shape_of x) = shaped y ∙ ap h shape in
            ((rw (named y) after, rw (named y, told) there), inside y (eqb-true (name_of y) n e) below)
        by_test false e =
            let there : s (name_of y) ≡ Some (room_of p x) = rooms (name_of y) ∙ rw (e, here) refl in
            ((after, rw shape there), below)

    mutual
      pub reads_inside : (p : Option ℕ) (x : NamedNode) → HasRoom r p x → ReadsInside r x → HasRoom s p (changed n g x) × ReadsInside s (changed n g x)
      reads_inside p (named_text m t) has below = at_node p (named_text m t) (named_text m t) refl refl has tt
      reads_inside p (named_comment m t) has below = at_node p (named_comment m t) (named_comment m t) refl refl has tt
      reads_inside p (named_element m e ats f) has below =
          at_node p (named_element m e ats f) (named_element m e ats (changed_in n g f)) refl (ap (element_shape e ats) (same_names f)) has (reads_changed (Some m) f below)
      reads_inside p (named_anchor m gs) has below =
          at_node p (named_anchor m gs) (named_anchor m (changed_groups n g gs)) refl (ap anchor_shape (same_groups gs)) has (reads_groups (Some m) gs below)

      pub reads_changed : (p : Option ℕ) (f : NamedForest) → ReadsIn r p f → ReadsIn s p (changed_in n g f)
      reads_changed p nothing_named t = tt
      reads_changed p (named_then x f) t = let both = reads_inside p x t.0 t.1 in (both.0, both.1, reads_changed p f t.2)

      pub reads_groups : (p : Option ℕ) (gs : NamedGroups) → ReadsGroups r p gs → ReadsGroups s p (changed_groups n g gs)
      reads_groups p no_groups t = tt
      reads_groups p (group_then f gs) t = (reads_changed p f t.0, reads_groups p gs t.1)
