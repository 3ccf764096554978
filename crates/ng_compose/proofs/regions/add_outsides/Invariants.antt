use Rattle.std.proofs.Common.{◌≡◌, ◌++◌, drop}
use Rattle.ng_compose.proofs.regions.add_outsides.Given as goal

abbrev pub invariant-loop-outside : goal.invariant-loop-outside
invariant-loop-outside l = l.all.items ++ drop l.outside-index l.more ≡ l.initial.all.items ++ l.more
