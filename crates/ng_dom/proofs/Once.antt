-- A table has one forest under given names.
use Rattle.std.proofs.Common.{◌≡◌, ℕ, List, Option, Some, refl, ap, ◌∙◌, sym}
use Rattle.ng_markup.specs.Forest.{Attributes}
use Rattle.ng_dom.specs.Nodes.{NamedNode, NamedForest, NamedGroups, named_text, named_comment, named_element, named_anchor, nothing_named, named_then, no_groups, group_then, name_of, names_of, group_names}
use Rattle.ng_dom.specs.Rooms.{Room, Rooms, shape_of, room_of, HasRoom, ReadsInside, ReadsIn, ReadsGroups}
use Rattle.ng_dom.specs.Laws.{OneReading}

module _ (r : Rooms) where
  one_shape : (p : Option ℕ) (x y : NamedNode) → name_of x ≡ name_of y → HasRoom r p x → HasRoom r p y → shape_of x ≡ shape_of y
  one_shape p x y e hx hy =
      let two : Some (room_of p x) ≡ Some (room_of p y) = sym hx.1 ∙ (ap r e ∙ hy.1) in
      let one : room_of p x ≡ room_of p y = cc in
      ap (λ (z : Room). z.shape) one

  mutual
    one_node : (x y : NamedNode) → name_of x ≡ name_of y → shape_of x ≡ shape_of y → ReadsInside r x → ReadsInside r y → x ≡ y
    one_node (named_text n t) (named_text m u) e s h k = let q : t ≡ u = cc in ap (λ (i : ℕ). named_text i t) e ∙ ap (named_text m) q
    one_node (named_comment n t) (named_comment m u) e s h k = let q : t ≡ u = cc in ap (λ (i : ℕ). named_comment i t) e ∙ ap (named_comment m) q
    one_node (named_element n a us f) (named_element m b vs g) e s h k =
        let q : a ≡ b = cc in
        let z : us ≡ vs = cc in
        let l : names_of f ≡ names_of g = cc in
        ap (λ (i : ℕ). named_element i a us f) e ∙ (ap (λ (c : List ℕ). named_element m c us f) q
        ∙ (ap (λ (ws : Attributes). named_element m b ws f) z ∙ ap (named_element m b vs) (one_forest (Some m) f g (rw (sym e) h) k l)))
    one_node (named_anchor n fs) (named_anchor m gs) e s h k =
        let l : group_names fs ≡ group_names gs = cc in
        ap (λ (i : ℕ). named_anchor i fs) e ∙ ap (named_anchor m) (one_groups (Some m) fs gs (rw (sym e) h) k l)
    one_node (named_text n t) (named_comment m u) e s h k = absurd (cc)
    one_node (named_text n t) (named_element m b vs g) e s h k = absurd (cc)
    one_node (named_text n t) (named_anchor m gs) e s h k = absurd (cc)
    one_node (named_comment n t) (named_text m u) e s h k = absurd (cc)
    one_node (named_comment n t) (named_element m b vs g) e s h k = absurd (cc)
    one_node (named_comment n t) (named_anchor m gs) e s h k = absurd (cc)
    one_node (named_element n a us f) (named_text m u) e s h k = absurd (cc)
    one_node (named_element n a us f) (named_comment m u) e s h k = absurd (cc)
    one_node (named_element n a us f) (named_anchor m gs) e s h k = absurd (cc)
    one_node (named_anchor n fs) (named_text m u) e s h k = absurd (cc)
    one_node (named_anchor n fs) (named_comment m u) e s h k = absurd (cc)
    one_node (named_anchor n fs) (named_element m b vs g) e s h k = absurd (cc)

    one_forest : (p : Option ℕ) (f g : NamedForest) → ReadsIn r p f → ReadsIn r p g → names_of f ≡ names_of g → f ≡ g
    one_forest p nothing_named nothing_named h k e = refl
    one_forest p nothing_named (named_then y g) h k e = absurd (cc)
    one_forest p (named_then x f) nothing_named h k e = absurd (cc)
    one_forest p (named_then x f) (named_then y g) h k e =
        let q : name_of x ≡ name_of y = cc in
        let l : names_of f ≡ names_of g = cc in
        ap (λ (z : NamedNode). named_then z f) (one_node x y q (one_shape p x y q h.0 k.0) h.1 k.1) ∙ ap (named_then y) (one_forest p f g h.2 k.2 l)

    one_groups : (p : Option ℕ) (fs gs : NamedGroups) → ReadsGroups r p fs → ReadsGroups r p gs → group_names fs ≡ group_names gs → fs ≡ gs
    one_groups p no_groups no_groups h k e = refl
    one_groups p no_groups (group_then g gs) h k e = absurd (cc)
    one_groups p (group_then f fs) no_groups h k e = absurd (cc)
    one_groups p (group_then f fs) (group_then g gs) h k e =
        let q : names_of f ≡ names_of g = cc in
        let l : group_names fs ≡ group_names gs = cc in
        ap (λ (z : NamedForest). group_then z fs) (one_forest p f g h.0 k.0 q) ∙ ap (group_then g) (one_groups p fs gs h.1 k.1 l)

pub one_reading : OneReading
one_reading r p f g h k e = one_forest r p f g h k e
