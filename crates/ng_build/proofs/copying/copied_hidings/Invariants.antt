use Rattle.std.proofs.Common.{◌≡◌, ◌++◌, drop, map}
use Rattle.ng_parts.specs.AttributeOf as seen
use Rattle.ng_build.specs.Seen.{hiding_of}
use Rattle.ng_build.specs.Shape.{keys_by, linked_hiding}
use Rattle.ng_build.proofs.copying.copied_hidings.Given as goal

abbrev pub invariant-loop-hiding : goal.invariant-loop-hiding
invariant-loop-hiding l =
    map hiding_of l.copy.items ++ map (linked_hiding (keys_by l.keys)) (map seen.hiding_of (drop l.hiding-index l.hidings)) ≡ map (linked_hiding (keys_by l.keys)) (map seen.hiding_of l.hidings)
