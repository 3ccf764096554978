use Rattle.std.proofs.Common.{◌≡◌, ◌++◌, drop, map}
use Rattle.ng_instances.specs.BoundOf.{piece_of}
use Rattle.ng_instances.proofs.sites.copied_pieces.Given as goal

abbrev pub invariant-loop-piece : goal.invariant-loop-piece
invariant-loop-piece l = map piece_of l.all.items ++ map piece_of (drop l.piece-index l.pieces) ≡ map piece_of l.pieces
