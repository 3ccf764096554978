use Rattle.std.proofs.Common.{◌≡◌, ◌++◌, map, drop}
use Rattle.ng_parts.specs.PieceOf.{piece_of}
use Rattle.ng_parts.proofs.pieces.Pieces.copied.Given as goal

abbrev pub invariant-loop-piece : goal.invariant-loop-piece
invariant-loop-piece l = l.pieces ++ map piece_of (drop l.piece-index l.piece-items) ≡ map piece_of l.piece-items
