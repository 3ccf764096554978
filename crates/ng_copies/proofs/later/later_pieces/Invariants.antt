use Rattle.std.proofs.Common.{◌≡◌, ◌++◌, map, drop}
use Rattle.ng_drawing.specs.Included.{later_piece}
use Rattle.ng_parts.specs.PieceOf.{piece_of}
use Rattle.ng_copies.proofs.later.later_pieces.Given as goal

abbrev pub invariant-loop-piece : goal.invariant-loop-piece
invariant-loop-piece l = l.moved ++ map (later_piece l.by) (map piece_of (drop l.piece-index l.piece-items)) ≡ map (later_piece l.by) (map piece_of l.piece-items)
