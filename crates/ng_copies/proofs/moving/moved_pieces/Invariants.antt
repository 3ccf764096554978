use Rattle.std.proofs.Common.{◌≡◌, ◌++◌, map, drop}
use Rattle.ng_drawing.specs.Moved.{moved_by, moved_piece}
use Rattle.ng_parts.specs.PieceOf.{piece_of}
use Rattle.ng_copies.proofs.moving.moved_pieces.Given as goal

abbrev pub invariant-loop-piece : goal.invariant-loop-piece
invariant-loop-piece l = l.all ++ map (moved_piece (moved_by l.moved)) (map piece_of (drop l.piece-index l.piece-items)) ≡ map (moved_piece (moved_by l.moved)) (map piece_of l.piece-items)
