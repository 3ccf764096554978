use Rattle.std.proofs.Common.{◌∙◌}
use Rattle.ng_parts.specs.PieceOf.{piece_of}
use Rattle.ng_compose.proofs.ComposingTurns.{holes_turn}
use Rattle.ng_compose.proofs.composed.add_holes.Goals as goal

pub loop-piece-preserved : goal.loop-piece-preserved
loop-piece-preserved c =
    holes_turn piece_of c.as_slice-piece-items.result.now c.loop-piece.piece-index c.piece-item.result c.loop-piece.numbers.items c.add_hole.new.numbers.items c.loop-piece-test.true c.piece-item.is c.in_ok-add_hole.ensures
    ∙ c.loop-piece.invariant
