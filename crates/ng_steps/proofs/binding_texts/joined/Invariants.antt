use Rattle.std.proofs.Common.{◌≡◌, ◌++◌, drop, map}
use Rattle.ng_steps.specs.LinkBindings.{joined_with}
use Rattle.ng_parts.specs.PieceOf.{piece_of}
use Rattle.ng_steps.proofs.binding_texts.joined.Given as goal

abbrev pub invariant-loop-piece : goal.invariant-loop-piece
invariant-loop-piece l = l.text ++ joined_with (map piece_of (drop l.piece-index l.piece-items)) l.left ≡ joined_with (map piece_of l.piece-items) l.shown
