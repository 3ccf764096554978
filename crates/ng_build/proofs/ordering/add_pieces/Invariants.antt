use Rattle.std.proofs.Common.{◌≡◌, ◌++◌, drop, map}
use Rattle.ng_parts.specs.PieceOf.{piece_of}
use Rattle.ng_build.specs.Linking.{piece_steps}
use Rattle.ng_build.specs.StepOf.{step_of}
use Rattle.ng_build.proofs.ordering.add_pieces.Given as goal

abbrev pub invariant-loop-piece : goal.invariant-loop-piece
invariant-loop-piece l = map step_of l.order.items ++ piece_steps (map piece_of (drop l.piece-index l.pieces)) ≡ map step_of l.initial.order.items ++ piece_steps (map piece_of l.pieces)
