-- The numbers of a text's holes.
use Rattle.std.proofs.Common.{◌≡◌, ◌<◌, ◌≤◌, ◌+◌, ℕ, Bool, true, cond, List, [], ◌∷◌, length, None, Some, refl, ap, ◌∙◌, arith}
use Rattle.std.proofs.lemmas.Bool.{and_from, eq-eqb}
use Rattle.std.specs.List.{list_all, flat_map}
use Rattle.ng_drawing.specs.declared.kind.SiteKind.{SiteKind}
use Rattle.ng_interp.specs.Parts.{Piece}
use Rattle.ng_interp.specs.Parts as interp
use Rattle.ng_drawing.specs.Numbering.{after_pieces, is_piece_drawn}
use Rattle.ng_template.specs.Order.{piece_holes}
use Rattle.ng_directives.specs.Texts.{numbered, sites_in, counted}

module _ (kind : SiteKind) where
  pub numbered-holes : (n : ℕ) (ps : List Piece) → flat_map piece_holes (numbered n ps) ≡ counted n (sites_in kind ps)
  numbered-holes n [] = refl
  numbered-holes n (interp.words t ∷ ps) = numbered-holes n ps
  numbered-holes n (interp.hole once p ∷ ps) = ap (λ (zs : List ℕ). n ∷ zs) (numbered-holes (n + 1) ps)

  pub after-numbered : (n : ℕ) (ps : List Piece) → after_pieces n (numbered n ps) ≡ Some (n + length (sites_in kind ps))
  after-numbered n [] = ap Some (omega arith)
  after-numbered n (interp.words t ∷ ps) = after-numbered n ps
  after-numbered n (interp.hole once p ∷ ps) =
      let e : n + 1 + length (sites_in kind ps) ≡ n + length (sites_in kind (interp.hole once p ∷ ps)) = omega arith in
      ap (λ b. cond b (after_pieces (n + 1) (numbered (n + 1) ps)) None) (eq-eqb n n refl) ∙ (after-numbered (n + 1) ps ∙ ap Some e)

  -- the pieces of parts have the numbers of their sites alone
  pub numbered-drawn : (test : ℕ → Bool) (n : ℕ) (ps : List Piece) → ((k : ℕ) → n ≤ k → k < n + length (sites_in kind ps) → test k ≡ true) → list_all (is_piece_drawn test) (numbered n ps) ≡ true
  numbered-drawn test n [] h = refl
  numbered-drawn test n (interp.words t ∷ ps) h = numbered-drawn test n ps h
  numbered-drawn test n (interp.hole once p ∷ ps) h =
      let more : (k : ℕ) → n + 1 ≤ k → k < n + 1 + length (sites_in kind ps) → test k ≡ true = λ k l u. h k (omega arith) (omega arith) in
      and_from (test n) (list_all (is_piece_drawn test) (numbered (n + 1) ps)) (h n (omega arith) (omega arith)) (numbered-drawn test (n + 1) ps more)
