use Rattle.std.proofs.Common.{◌≡◌, ◌++◌, drop, map}
use Rattle.ng_parts.specs.PieceOf.{piece_of}
use Rattle.ng_build.specs.Shape.{piece_holes}
use Rattle.ng_build.proofs.building.note_holes.Given as goal

abbrev pub invariant-loop-piece : goal.invariant-loop-piece
invariant-loop-piece l = l.spots.items ++ piece_holes l.n.made.0 (map piece_of (drop l.piece-index l.pieces)) ≡ l.initial.spots.items ++ piece_holes l.n.made.0 (map piece_of l.pieces)
