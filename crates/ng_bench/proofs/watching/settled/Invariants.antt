use Rattle.std.proofs.Common.{IsSome}
use Rattle.ng_watch.specs.Table.{found, watchers_of}
use Rattle.ng_bench.proofs.watching.settled.Given as goal

abbrev pub invariant-loop : goal.invariant-loop
invariant-loop l = IsSome (found l.at (watchers_of l.watchers))
