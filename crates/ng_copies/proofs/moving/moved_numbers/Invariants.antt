use Rattle.std.proofs.Common.{◌≡◌, ◌++◌, map, drop}
use Rattle.ng_drawing.specs.Moved.{moved_by}
use Rattle.ng_copies.proofs.moving.moved_numbers.Given as goal

abbrev pub invariant-loop-n : goal.invariant-loop-n
invariant-loop-n l = l.all.items ++ map (moved_by l.moved) (drop l.n-index l.numbers) ≡ map (moved_by l.moved) l.numbers
