use Rattle.std.proofs.Common.{◌≡◌, drop}
use Rattle.std.specs.Prelude.{find}
use Rattle.ng_collect.specs.Sorted.{is_terminal}
use Rattle.ng_collect.proofs.sorting.first_terminal.Given as goal

abbrev pub invariant-loop-p : goal.invariant-loop-p
invariant-loop-p l = find (is_terminal l.defs) (drop l.p-index l.picks) ≡ find (is_terminal l.defs) l.picks
