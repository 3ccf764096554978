use Rattle.std.proofs.Common.{◌≡◌, ◌++◌}
use Rattle.ng_filters.proofs.properties.add.Given as goal

abbrev pub invariant-loop-property : goal.invariant-loop-property
invariant-loop-property l = l.done.items ≡ l.initial.done.items ++ l.yielded
