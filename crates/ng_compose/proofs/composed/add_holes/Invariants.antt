use Rattle.std.proofs.Common.{◌≡◌, ◌++◌, map, drop}
use Rattle.ng_drawing.specs.Numbering.{hole_numbers}
use Rattle.ng_parts.specs.PieceOf.{piece_of}
use Rattle.ng_compose.proofs.composed.add_holes.Given as goal

abbrev pub invariant-loop-piece : goal.invariant-loop-piece
invariant-loop-piece l = l.numbers.items ++ hole_numbers (map piece_of (drop l.piece-index l.piece-items)) ≡ l.initial.numbers.items ++ hole_numbers (map piece_of l.piece-items)
