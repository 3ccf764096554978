-- What is drawn of fewer sites is drawn of more.
use Rattle.std.proofs.Common.{◌≡◌, ℕ, Bool, true, List, [], ◌∷◌, refl}
use Rattle.std.proofs.lemmas.Bool.{and_parts, and_from}
use Rattle.std.specs.List.{list_all}
use Rattle.std.specs.Prelude.{◌&&◌}
use Rattle.ng_drawing.specs.Template.{word, hole, Hiding, while_true, while_false, PartClass, PartValue, always, unless_empty, flag, classes, PartAttributes, Part, Contents, Parts, text_part, comment_part, element_part, anchor_part, children, bound, no_parts, part_then}
use Rattle.ng_drawing.specs.Template as template
use Rattle.ng_drawing.specs.Numbering.{bound_numbers, is_piece_drawn, is_hiding_drawn, is_class_drawn, is_value_drawn, are_drawn, part_draws, contents_draw, parts_draw}

pub all_more : {A : Type 0} (p q : A → Bool) → ((x : A) → p x ≡ true → q x ≡ true) → (xs : List A) → list_all p xs ≡ true → list_all q xs ≡ true
all_more p q go [] e = refl
all_more p q go (x ∷ xs) e = let h = and_parts (p x) (list_all p xs) e in and_from (q x) (list_all q xs) (go x h.0) (all_more p q go xs h.1)

-- what has numbers of one kind alone has those of a wider kind alone
module _ (p q : ℕ → Bool) (go : (k : ℕ) → p k ≡ true → q k ≡ true) where
  piece_more : (x : template.Piece) → is_piece_drawn p x ≡ true → is_piece_drawn q x ≡ true
  piece_more (word w) e = refl
  piece_more (hole k) e = go k e

  hiding_more : (x : Hiding) → is_hiding_drawn p x ≡ true → is_hiding_drawn q x ≡ true
  hiding_more (while_true k) e = go k e
  hiding_more (while_false k) e = go k e

  pieces_more : (ps : List template.Piece) → list_all (is_piece_drawn p) ps ≡ true → list_all (is_piece_drawn q) ps ≡ true
  pieces_more = all_more (is_piece_drawn p) (is_piece_drawn q) piece_more

  pub class_more : (c : PartClass) → is_class_drawn p c ≡ true → is_class_drawn q c ≡ true
  class_more c e =
      let h = and_parts (list_all (is_piece_drawn p) c.pieces) (list_all p c.words && list_all (is_hiding_drawn p) c.hidings) e in
      let g = and_parts (list_all p c.words) (list_all (is_hiding_drawn p) c.hidings) h.1 in
      and_from (list_all (is_piece_drawn q) c.pieces) (list_all q c.words && list_all (is_hiding_drawn q) c.hidings) (pieces_more c.pieces h.0)
      (and_from (list_all q c.words) (list_all (is_hiding_drawn q) c.hidings) (all_more p q go c.words g.0) (all_more (is_hiding_drawn p) (is_hiding_drawn q) hiding_more c.hidings g.1))

  value_more : (v : PartValue) → is_value_drawn p v ≡ true → is_value_drawn q v ≡ true
  value_more (always ps) e = pieces_more ps e
  value_more (unless_empty ps) e = pieces_more ps e
  value_more (flag w k) e = go k e
  value_more (classes c) e = class_more c e

  pub attributes_more : (ats : PartAttributes) → are_drawn p ats ≡ true → are_drawn q ats ≡ true
  attributes_more = all_more (λ a. is_value_drawn p a.1) (λ a. is_value_drawn q a.1) (λ a. value_more a.1)

  mutual
    pub part_more : (x : Part) → part_draws p x ≡ true → part_draws q x ≡ true
    part_more (text_part ps) e = pieces_more ps e
    part_more (comment_part t) e = refl
    part_more (element_part name own acts ats c) e =
        let b = and_parts (list_all p (bound_numbers acts)) (are_drawn p ats && contents_draw p c) e in
        let h = and_parts (are_drawn p ats) (contents_draw p c) b.1 in
        and_from (list_all q (bound_numbers acts)) (are_drawn q ats && contents_draw q c) (all_more p q go (bound_numbers acts) b.0) (and_from (are_drawn q ats) (contents_draw q c) (attributes_more ats h.0) (contents_more c h.1))
    part_more (anchor_part outlet own starts) e = refl

    pub contents_more : (c : Contents) → contents_draw p c ≡ true → contents_draw q c ≡ true
    contents_more (children ps) e = parts_more ps e
    contents_more (bound b) e = go b e

    pub parts_more : (ps : Parts) → parts_draw p ps ≡ true → parts_draw q ps ≡ true
    parts_more no_parts e = refl
    parts_more (part_then x ps) e =
        let h = and_parts (part_draws p x) (parts_draw p ps) e in
        and_from (part_draws q x) (parts_draw q ps) (part_more x h.0) (parts_more ps h.1)
