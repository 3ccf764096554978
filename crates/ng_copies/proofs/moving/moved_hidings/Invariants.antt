use Rattle.std.proofs.Common.{◌≡◌, ◌++◌, map, drop}
use Rattle.ng_parts.specs.AttributeOf.{hiding_of}
use Rattle.ng_drawing.specs.Moved.{moved_by, moved_hiding}
use Rattle.ng_copies.proofs.moving.moved_hidings.Given as goal

abbrev pub invariant-loop-hiding : goal.invariant-loop-hiding
invariant-loop-hiding l = map hiding_of l.all.items ++ map (moved_hiding (moved_by l.moved)) (map hiding_of (drop l.hiding-index l.hidings)) ≡ map (moved_hiding (moved_by l.moved)) (map hiding_of l.hidings)
