use Rattle.std.proofs.Common.{◌≡◌, ◌∙◌, ◌+◌, ◌++◌, List, ◌∷◌, ap, drop, map, sym}
use Rattle.ng_drawing.specs.Template.{Piece}
use Rattle.ng_changes.proofs.Answered.{dropped}
use Rattle.ng_steps.specs.LinkBindings.{joined_with}
use Rattle.ng_parts.specs.PieceOf.{piece_of}
use Rattle.ng_steps.proofs.binding_texts.joined.Goals as goal

pub loop-piece-preserved : goal.loop-piece-preserved
loop-piece-preserved c =
    let l = c.loop-piece in
    let items = c.as_slice-piece-items.result.now in
    let x : Piece = piece_of c.piece-item.result in
    let rest : List Piece = map piece_of (drop (l.piece-index + 1) items) in
    let first : map piece_of (drop l.piece-index items) ≡ x ∷ rest = ap (map piece_of) (dropped items l.piece-index c.piece-item.result c.loop-piece-test.true c.piece-item.is) in
    c.in_ok-left.ensures rest ∙ (sym (ap (λ (ps : List Piece). l.text ++ joined_with ps l.left.now) first) ∙ l.invariant)
