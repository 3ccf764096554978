use Rattle.std.proofs.Common.{◌≡◌, ◌++◌}
use Rattle.ng_directives.proofs.Numbers.{up}
use Rattle.ng_directives.proofs.texts.add_numbers.Given as goal

abbrev pub invariant-loop-i : goal.invariant-loop-i
invariant-loop-i l = l.own.items ≡ l.initial.own.items ++ up l.first l.i
