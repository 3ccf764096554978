use Rattle.std.proofs.Common.{◌≡◌, ◌++◌, drop, map}
use Rattle.ng_build.specs.Shape.{keys_by}
use Rattle.ng_build.proofs.copying.copied_keys.Given as goal

abbrev pub invariant-loop-n : goal.invariant-loop-n
invariant-loop-n l = l.all.items ++ map (keys_by l.keys) (drop l.n-index l.numbers) ≡ map (keys_by l.keys) l.numbers
