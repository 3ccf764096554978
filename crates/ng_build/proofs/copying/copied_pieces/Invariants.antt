use Rattle.std.proofs.Common.{◌≡◌, ◌++◌, drop, map}
use Rattle.ng_parts.specs.PieceOf.{piece_of}
use Rattle.ng_build.specs.Shape.{keys_by, linked_pieces}
use Rattle.ng_build.proofs.copying.copied_pieces.Given as goal

abbrev pub invariant-loop-piece : goal.invariant-loop-piece
invariant-loop-piece l = l.copy.items ++ linked_pieces (keys_by l.keys) (map piece_of (drop l.piece-index l.pieces)) ≡ linked_pieces (keys_by l.keys) (map piece_of l.pieces)
