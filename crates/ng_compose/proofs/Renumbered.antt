-- What is drawn from some sites is drawn from others once their numbers are moved; and what is drawn from sites of one kind and of another is drawn
-- from those of both.
use Rattle.std.proofs.Common.{◌≡◌, ℕ, Bool, true, List, [], ◌∷◌, map, refl}
use Rattle.std.proofs.lemmas.Bool.{and_parts, and_from}
use Rattle.std.specs.List.{list_all}
use Rattle.std.specs.Prelude.{◌&&◌}
use Rattle.ng_drawing.specs.Template.{Piece, word, hole, Hiding, while_true, while_false, PartClass, PartValue, always, unless_empty, flag, classes, PartAttributes, Part, Contents, Parts, text_part, comment_part, element_part, anchor_part, children, bound, no_parts, part_then}
use Rattle.ng_drawing.specs.Moved.{moved_piece, moved_hiding, moved_class, moved_value, moved_attributes}
use Rattle.ng_drawing.specs.Numbering.{bound_numbers, is_piece_drawn, is_hiding_drawn, is_class_drawn, is_value_drawn, are_drawn, part_draws, contents_draw, parts_draw}

-- what holds of all holds of all that they come to
pub all_come : {A B : Type 0} (p : A → Bool) (q : B → Bool) (f : A → B) → ((x : A) → p x ≡ true → q (f x) ≡ true) → (xs : List A) → list_all p xs ≡ true → list_all q (map f xs) ≡ true
all_come p q f go [] e = refl
all_come p q f go (x ∷ xs) e = let h = and_parts (p x) (list_all p xs) e in and_from (q (f x)) (list_all q (map f xs)) (go x h.0) (all_come p q f go xs h.1)

module _ (f : ℕ → ℕ) (p q : ℕ → Bool) (go : (k : ℕ) → p k ≡ true → q (f k) ≡ true) where
  piece_moves : (x : Piece) → is_piece_drawn p x ≡ true → is_piece_drawn q (moved_piece f x) ≡ true
  piece_moves (word w) e = refl
  piece_moves (hole k) e = go k e

  pub pieces_move : (ps : List Piece) → list_all (is_piece_drawn p) ps ≡ true → list_all (is_piece_drawn q) (map (moved_piece f) ps) ≡ true
  pieces_move ps e = all_come (is_piece_drawn p) (is_piece_drawn q) (moved_piece f) piece_moves ps e

  hiding_moves : (x : Hiding) → is_hiding_drawn p x ≡ true → is_hiding_drawn q (moved_hiding f x) ≡ true
  hiding_moves (while_true k) e = go k e
  hiding_moves (while_false k) e = go k e

  class_moves : (c : PartClass) → is_class_drawn p c ≡ true → is_class_drawn q (moved_class f c) ≡ true
  class_moves c e =
      let h = and_parts (list_all (is_piece_drawn p) c.pieces) (list_all p c.words && list_all (is_hiding_drawn p) c.hidings) e in
      let g = and_parts (list_all p c.words) (list_all (is_hiding_drawn p) c.hidings) h.1 in
      and_from (list_all (is_piece_drawn q) (map (moved_piece f) c.pieces)) (list_all q (map f c.words) && list_all (is_hiding_drawn q) (map (moved_hiding f) c.hidings)) (pieces_move c.pieces h.0)
      (and_from (list_all q (map f c.words)) (list_all (is_hiding_drawn q) (map (moved_hiding f) c.hidings)) (all_come p q f go c.words g.0)
      (all_come (is_hiding_drawn p) (is_hiding_drawn q) (moved_hiding f) hiding_moves c.hidings g.1))

  value_moves : (v : PartValue) → is_value_drawn p v ≡ true → is_value_drawn q (moved_value f v) ≡ true
  value_moves (always ps) e = pieces_move ps e
  value_moves (unless_empty ps) e = pieces_move ps e
  value_moves (flag w k) e = go k e
  value_moves (classes c) e = class_moves c e

  pub attributes_move : (ats : PartAttributes) → are_drawn p ats ≡ true → are_drawn q (moved_attributes f ats) ≡ true
  attributes_move ats e = all_come (λ a. is_value_drawn p a.1) (λ a. is_value_drawn q a.1) (λ a. (a.0, moved_value f a.1)) (λ a. value_moves a.1) ats e

all_both : {A : Type 0} (s t u : A → Bool) → ((x : A) → s x ≡ true → t x ≡ true → u x ≡ true) → (xs : List A) → list_all s xs ≡ true → list_all t xs ≡ true → list_all u xs ≡ true
all_both s t u go [] e d = refl
all_both s t u go (x ∷ xs) e d =
    let h = and_parts (s x) (list_all s xs) e in
    let g = and_parts (t x) (list_all t xs) d in
    and_from (u x) (list_all u xs) (go x h.0 g.0) (all_both s t u go xs h.1 g.1)

module _ (p q : ℕ → Bool) where
  abbrev pub both : ℕ → Bool
  both k = p k && q k

  number_both : (k : ℕ) → p k ≡ true → q k ≡ true → both k ≡ true
  number_both k e d = and_from (p k) (q k) e d

  pub numbers_both : (ks : List ℕ) → list_all p ks ≡ true → list_all q ks ≡ true → list_all both ks ≡ true
  numbers_both ks e d = all_both p q both number_both ks e d

  piece_both : (x : Piece) → is_piece_drawn p x ≡ true → is_piece_drawn q x ≡ true → is_piece_drawn both x ≡ true
  piece_both (word w) e d = refl
  piece_both (hole k) e d = number_both k e d

  pub pieces_both : (ps : List Piece) → list_all (is_piece_drawn p) ps ≡ true → list_all (is_piece_drawn q) ps ≡ true → list_all (is_piece_drawn both) ps ≡ true
  pieces_both ps e d = all_both (is_piece_drawn p) (is_piece_drawn q) (is_piece_drawn both) piece_both ps e d

  hiding_both : (x : Hiding) → is_hiding_drawn p x ≡ true → is_hiding_drawn q x ≡ true → is_hiding_drawn both x ≡ true
  hiding_both (while_true k) e d = number_both k e d
  hiding_both (while_false k) e d = number_both k e d

  class_both : (c : PartClass) → is_class_drawn p c ≡ true → is_class_drawn q c ≡ true → is_class_drawn both c ≡ true
  class_both c e d =
      let h = and_parts (list_all (is_piece_drawn p) c.pieces) (list_all p c.words && list_all (is_hiding_drawn p) c.hidings) e in
      let g = and_parts (list_all p c.words) (list_all (is_hiding_drawn p) c.hidings) h.1 in
      let i = and_parts (list_all (is_piece_drawn q) c.pieces) (list_all q c.words && list_all (is_hiding_drawn q) c.hidings) d in
      let j = and_parts (list_all q c.words) (list_all (is_hiding_drawn q) c.hidings) i.1 in
      and_from (list_all (is_piece_drawn both) c.pieces) (list_all both c.words && list_all (is_hiding_drawn both) c.hidings) (pieces_both c.pieces h.0 i.0)
      (and_from (list_all both c.words) (list_all (is_hiding_drawn both) c.hidings) (all_both p q both number_both c.words g.0 j.0)
      (all_both (is_hiding_drawn p) (is_hiding_drawn q) (is_hiding_drawn both) hiding_both c.hidings g.1 j.1))

  value_both : (v : PartValue) → is_value_drawn p v ≡ true → is_value_drawn q v ≡ true → is_value_drawn both v ≡ true
  value_both (always ps) e d = pieces_both ps e d
  value_both (unless_empty ps) e d = pieces_both ps e d
  value_both (flag w k) e d = number_both k e d
  value_both (classes c) e d = class_both c e d

  pub attributes_both : (ats : PartAttributes) → are_drawn p ats ≡ true → are_drawn q ats ≡ true → are_drawn both ats ≡ true
  attributes_both ats e d = all_both (λ a. is_value_drawn p a.1) (λ a. is_value_drawn q a.1) (λ a. is_value_drawn both a.1) (λ a. value_both a.1) ats e d

  mutual
    part_both : (x : Part) → part_draws p x ≡ true → part_draws q x ≡ true → part_draws both x ≡ true
    part_both (text_part ps) e d = pieces_both ps e d
    part_both (comment_part t) e d = refl
    part_both (element_part name own acts ats c) e d =
        let h = and_parts (list_all p (bound_numbers acts)) (are_drawn p ats && contents_draw p c) e in
        let g = and_parts (list_all q (bound_numbers acts)) (are_drawn q ats && contents_draw q c) d in
        let i = and_parts (are_drawn p ats) (contents_draw p c) h.1 in
        let j = and_parts (are_drawn q ats) (contents_draw q c) g.1 in
        and_from (list_all both (bound_numbers acts)) (are_drawn both ats && contents_draw both c) (numbers_both (bound_numbers acts) h.0 g.0)
        (and_from (are_drawn both ats) (contents_draw both c) (attributes_both ats i.0 j.0) (contents_both c i.1 j.1))
    part_both (anchor_part outlet own starts) e d = refl

    contents_both : (c : Contents) → contents_draw p c ≡ true → contents_draw q c ≡ true → contents_draw both c ≡ true
    contents_both (children ps) e d = parts_both ps e d
    contents_both (bound b) e d = number_both b e d

    pub parts_both : (ps : Parts) → parts_draw p ps ≡ true → parts_draw q ps ≡ true → parts_draw both ps ≡ true
    parts_both no_parts e d = refl
    parts_both (part_then x ps) e d =
        let h = and_parts (part_draws p x) (parts_draw p ps) e in
        let g = and_parts (part_draws q x) (parts_draw q ps) d in
        and_from (part_draws both x) (parts_draw both ps) (part_both x h.0 g.0) (parts_both ps h.1 g.1)

-- what is drawn from any sites
module _ (q : ℕ → Bool) (go : (k : ℕ) → q k ≡ true) where
  all_any : {A : Type 0} (u : A → Bool) → ((x : A) → u x ≡ true) → (xs : List A) → list_all u xs ≡ true
  all_any u any [] = refl
  all_any u any (x ∷ xs) = and_from (u x) (list_all u xs) (any x) (all_any u any xs)

  piece_any : (x : Piece) → is_piece_drawn q x ≡ true
  piece_any (word w) = refl
  piece_any (hole k) = go k

  hiding_any : (x : Hiding) → is_hiding_drawn q x ≡ true
  hiding_any (while_true k) = go k
  hiding_any (while_false k) = go k

  class_any : (c : PartClass) → is_class_drawn q c ≡ true
  class_any c =
      and_from (list_all (is_piece_drawn q) c.pieces) (list_all q c.words && list_all (is_hiding_drawn q) c.hidings) (all_any (is_piece_drawn q) piece_any c.pieces)
      (and_from (list_all q c.words) (list_all (is_hiding_drawn q) c.hidings) (all_any q go c.words) (all_any (is_hiding_drawn q) hiding_any c.hidings))

  value_any : (v : PartValue) → is_value_drawn q v ≡ true
  value_any (always ps) = all_any (is_piece_drawn q) piece_any ps
  value_any (unless_empty ps) = all_any (is_piece_drawn q) piece_any ps
  value_any (flag w k) = go k
  value_any (classes c) = class_any c

  mutual
    part_any : (x : Part) → part_draws q x ≡ true
    part_any (text_part ps) = all_any (is_piece_drawn q) piece_any ps
    part_any (comment_part t) = refl
    part_any (element_part name own acts ats c) =
        and_from (list_all q (bound_numbers acts)) (are_drawn q ats && contents_draw q c) (all_any q go (bound_numbers acts))
        (and_from (are_drawn q ats) (contents_draw q c) (all_any (λ a. is_value_drawn q a.1) (λ a. value_any a.1) ats) (contents_any c))
    part_any (anchor_part outlet own starts) = refl

    contents_any : (c : Contents) → contents_draw q c ≡ true
    contents_any (children ps) = parts_any ps
    contents_any (bound b) = go b

    pub parts_any : (ps : Parts) → parts_draw q ps ≡ true
    parts_any no_parts = refl
    parts_any (part_then x ps) = and_from (part_draws q x) (parts_draw q ps) (part_any x) (parts_any ps)
