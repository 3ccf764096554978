use Rattle.std.proofs.Common.{◌≡◌, ◌++◌, drop, map}
use Rattle.ng_fire.specs.Bindings.{text_kept}
use Rattle.ng_instances.specs.BoundOf.{piece_of}
use Rattle.ng_link.specs.State.{state_of}
use Rattle.ng_fire.proofs.bound_fires.kept_text.Given as goal

abbrev pub invariant-loop-piece : goal.invariant-loop-piece
invariant-loop-piece l = l.text ++ text_kept l.key.path (map piece_of (drop l.piece-index l.pieces)) (state_of l.works) ≡ text_kept l.key.path (map piece_of l.pieces) (state_of l.works)
