-- Each site is drawn in the node that is known for its key.
use Rattle.std.proofs.Common.{◌≡◌, ◌≤◌, ◌<◌, ◌+◌, ℕ, Bool, true, false, List, [], ◌∷◌, ◌++◌, Option, Some, refl, ap, ◌∙◌, sym, map, length, arith}
use Rattle.std.specs.Prelude.{◌==◌, ◌&&◌}
use Rattle.std.specs.List.{list_all}
use Rattle.std.proofs.lemmas.Bool.{eq-eqb, eqb-true, eqb-false}
use Rattle.std.proofs.lemmas.List.{length-map}
use Rattle.ng_base.specs.declared.path.Key.{Key}
use Rattle.ng_dom.specs.Drawing.{Source, Bodies, HolesAt, KeysAt, hiding_key, ValueAt, AttributesAt, HomedBodies, Held, HeldAll, HeldBodies}
use Rattle.ng_drawing.specs.Nodes.{part_nodes}
use Rattle.ng_drawing.specs.Template as template
use Rattle.ng_drawing.specs.Template.{word, hole, while_true, while_false, PartValue, always, unless_empty, flag, classes, PartAttributes, Part, Contents, Parts, text_part, comment_part, element_part, anchor_part, children, bound, no_parts, part_then}
use Rattle.ng_drawing.specs.Numbering.{bound_numbers, after_pieces, after_own, after_contents, after_part, after_parts, is_within, is_apart, is_piece_drawn, is_hiding_drawn, is_value_drawn, are_drawn}
use Rattle.ng_build.specs.Building.{Homed, HomedAll, AllAt}
use Rattle.ng_build.specs.Shape.{linked_pieces, linked_hiding, linked_value, linked_values, part_shape, content_shape, shape, own_node, piece_holes, part_holes, content_holes, holes}
use Rattle.ng_link.proofs.Below.{within, apart}
use Rattle.ng_link.proofs.Numbers.{both_true, first_then, bound_then, next_own, next_hole, contents_children, contents_bound, counted_own, counted_part}

-- names at rising keys, cut in two
at_append : (site : Key → Option ℕ) (keys : ℕ → Key) (n k : ℕ) (xs ys : List ℕ) → k ≡ n + length xs → AllAt site keys n (xs ++ ys) → AllAt site keys n xs × AllAt site keys k ys
at_append site keys n k [] ys e h = let same : k ≡ n = omega (arith, e) in (tt, rw same h)
at_append site keys n k (x ∷ xs) ys e h = let more = at_append site keys (n + 1) k xs ys (omega (arith, e)) h.1 in ((h.0, more.0), more.1)

-- what is drawn has its sites in a node, where all that a test lets in are
module _ (site : Key → Option ℕ) (keys : ℕ → Key) (m : ℕ) (test : ℕ → Bool) (at : (k : ℕ) → test k ≡ true → site (keys k) ≡ Some m) where
  pub drawn_holes : (ps : List template.Piece) → list_all (is_piece_drawn test) ps ≡ true → HolesAt site m (linked_pieces keys ps)
  drawn_holes [] e = tt
  drawn_holes (word w ∷ ps) e = drawn_holes ps e
  drawn_holes (hole k ∷ ps) e = let two = both_true (test k) (list_all (is_piece_drawn test) ps) e in (at k two.0, drawn_holes ps two.1)

  drawn_words : (ks : List ℕ) → list_all test ks ≡ true → KeysAt site m (map keys ks)
  drawn_words [] e = tt
  drawn_words (k ∷ ks) e = let two = both_true (test k) (list_all test ks) e in (at k two.0, drawn_words ks two.1)

  drawn_hidings : (hs : List template.Hiding) → list_all (is_hiding_drawn test) hs ≡ true → KeysAt site m (map hiding_key (map (linked_hiding keys) hs))
  drawn_hidings [] e = tt
  drawn_hidings (while_true k ∷ hs) e = let two = both_true (test k) (list_all (is_hiding_drawn test) hs) e in (at k two.0, drawn_hidings hs two.1)
  drawn_hidings (while_false k ∷ hs) e = let two = both_true (test k) (list_all (is_hiding_drawn test) hs) e in (at k two.0, drawn_hidings hs two.1)

  drawn_value : (x : PartValue) → is_value_drawn test x ≡ true → ValueAt site m (linked_value keys x)
  drawn_value (always ps) e = drawn_holes ps e
  drawn_value (unless_empty ps) e = drawn_holes ps e
  drawn_value (flag w k) e = at k e
  drawn_value (classes p) e =
      let two = both_true (list_all (is_piece_drawn test) p.pieces) (list_all test p.words && list_all (is_hiding_drawn test) p.hidings) e in
      let three = both_true (list_all test p.words) (list_all (is_hiding_drawn test) p.hidings) two.1 in
      (drawn_holes p.pieces two.0, drawn_words p.words three.0, drawn_hidings p.hidings three.1)

  pub drawn_values : (ats : PartAttributes) → are_drawn test ats ≡ true → AttributesAt site m (linked_values keys ats)
  drawn_values [] e = tt
  drawn_values (a ∷ ats) e = let two = both_true (is_value_drawn test a.1) (are_drawn test ats) e in (drawn_value a.1 two.0, drawn_values ats two.1)

module _ (site : Key → Option ℕ) (home : ℕ → Option Source) (keys : ℕ → Key) where
  -- the node of each own site
  own_at : (f : ℕ → ℕ) (n c : ℕ) (own : List ℕ) → after_own n own ≡ Some c → AllAt site keys n (map f own) → (k : ℕ) → n ≤ k → k < c → site (keys k) ≡ Some (f k)
  own_at f n c [] e h k from to = let same : n ≡ c = cc in absurd (omega (arith, same, from, to))
  own_at f n c (j ∷ js) e h k from to =
      by_test (k == n) refl (λ le. own_at f (n + 1) c js (next_own n j js c e).1 h.1 k le to)
    where
      by_test : (b : Bool) → (k == n) ≡ b → (n + 1 ≤ k → site (keys k) ≡ Some (f k)) → site (keys k) ≡ Some (f k)
      by_test true is more = let same = eqb-true k n is in rw same (h.0 ∙ ap (λ (i : ℕ). Some (f i)) (next_own n j js c e).0)
      by_test false is more = more (let ne = eqb-false k n is in omega (arith, ne, from))

  pieces_held : (n m c : ℕ) (ps : List template.Piece) → after_pieces n ps ≡ Some c → AllAt site keys n (piece_holes m ps) → HolesAt site m (linked_pieces keys ps)
  pieces_held n m c [] e h = tt
  pieces_held n m c (word w ∷ ps) e h = pieces_held n m c ps e h
  pieces_held n m c (hole k ∷ ps) e h = let two = next_hole n k ps c e in (rw two.0 h.0, pieces_held (n + 1) m c ps two.1 h.1)

  -- the one own site that the contents show, and the others
  bound_at : (m b k : ℕ) (o : Option ℕ) → o ≡ Some (own_node m (bound b) k) → (k == b) ≡ false → o ≡ Some m
  bound_at m b k o e ne = e ∙ ap Some (rw ne refl)

  -- what stands of a fragment, where what fills its outlets is held
  module _ (groups : ℕ → Bodies) (inside : (o : ℕ) → HomedBodies home (groups o) → HeldBodies site home (groups o)) where
    mutual
      part_held : (n m c : ℕ) (p : Part) → after_part n p ≡ Some c → AllAt site keys n (part_holes m p) → Homed home (part_shape keys m groups p) → Held site home (part_shape keys m groups p)
      part_held n m c (text_part ps) e h g = (g, pieces_held n m c ps e h)
      part_held n m c (comment_part t) e h g = g
      part_held n m c (element_part t own acts ats p) e h g =
          let z = bound_then n own acts ats p c e in
          let before : z.0 ≡ n + length (map (λ (k : ℕ). m) (bound_numbers acts)) = counted_own n z.0 (bound_numbers acts) z.1 ∙ ap (λ (i : ℕ). n + i) (sym (length-map (bound_numbers acts) (λ (k : ℕ). m))) in
          let behind = (at_append site keys n z.0 (map (λ (k : ℕ). m) (bound_numbers acts)) (map (own_node m p) own ++ content_holes (m + 1) p) before h).1 in
          let two = first_then (after_own z.0 own) (λ d. after_contents z.0 d ats p) c z.2 in
          let many : two.0 ≡ z.0 + length (map (own_node m p) own) = counted_own z.0 two.0 own two.1 ∙ ap (λ (i : ℕ). z.0 + i) (sym (length-map own (own_node m p))) in
          let both = at_append site keys z.0 two.0 (map (own_node m p) own) (content_holes (m + 1) p) many behind in
          let more = contents_held z.0 two.0 m c ats p two.2 (own_at (own_node m p) z.0 two.0 own two.1 both.0) both.1 g.1 in
          (g.0, more.0, more.1)
      part_held n m c (anchor_part outlet own starts) e h g = (g.0, inside outlet g.1)

      contents_held : (n d m c : ℕ) (ats : PartAttributes) (p : Contents) → after_contents n d ats p ≡ Some c → ((k : ℕ) → n ≤ k → k < d → site (keys k) ≡ Some (own_node m p k))
          → AllAt site keys d (content_holes (m + 1) p) → HomedAll home (content_shape keys (m + 1) groups p) → AttributesAt site m (linked_values keys ats) × HeldAll site home (content_shape keys (m + 1) groups p)
      contents_held n d m c ats (children ps) e at h g =
          let two = contents_children n d c ats ps e in
          (drawn_values site keys m (is_within n d) (λ k is. let lies = within n d k is in at k lies.0 lies.1) ats two.0, all_held d (m + 1) c ps two.1 h g)
      contents_held n d m c ats (bound b) e at h g =
          let three = contents_bound n d c ats b e in
          let lies = within n d b three.0 in
          let here : site (keys b) ≡ Some (m + 1) = at b lies.0 lies.1 ∙ ap Some (rw (eq-eqb b b refl) refl) in (
            drawn_values site keys m (is_apart b n d) (λ k is. let other = apart b n d k is in let within_own = within n d k other.0 in bound_at m b k (site (keys k)) (at k within_own.0 within_own.1) other.1) ats three.1,
            ((g.0, (here, tt)), tt),
          )

      pub all_held : (n m c : ℕ) (ps : Parts) → after_parts n ps ≡ Some c → AllAt site keys n (holes m ps) → HomedAll home (shape keys m groups ps) → HeldAll site home (shape keys m groups ps)
      all_held n m c no_parts e h g = tt
      all_held n m c (part_then p ps) e h g =
          let two = first_then (after_part n p) (λ k. after_parts k ps) c e in
          let both = at_append site keys n two.0 (part_holes m p) (holes (m + part_nodes p) ps) (counted_part n m two.0 p two.1) h in
          (part_held n m two.0 p two.1 both.0 g.0, all_held two.0 (m + part_nodes p) c ps two.2 both.1 g.1)
