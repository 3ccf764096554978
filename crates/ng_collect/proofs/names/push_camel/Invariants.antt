use Rattle.std.proofs.Common.{◌≡◌, ◌++◌, length}
use Rattle.std.specs.Prelude.{None}
use Rattle.ng_collect.specs.Names.{camel_from}
use Rattle.ng_collect.proofs.names.push_camel.Given as goal

abbrev pub invariant-loop-c : goal.invariant-loop-c
invariant-loop-c l = l.into ++ camel_from l.joiner l.name ≡ l.initial.into ++ camel_from None l.initial.name

abbrev pub decreases-loop-c : goal.decreases-loop-c
decreases-loop-c l = length l.name
