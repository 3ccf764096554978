use Rattle.std.proofs.Common.{◌<◌, length}
use Rattle.ng_core.specs.Frames.{IsSound}
use Rattle.ng_bench_acts.proofs.acting.risen.Given as goal

abbrev pub invariant-loop : goal.invariant-loop
invariant-loop l = record { sound : IsSound l.core; lowest : l.lowest.0 < length l.core.scopes }

abbrev pub invariant-loop-2 : goal.invariant-loop-2
invariant-loop-2 l = record { sound : IsSound l.core; lowest : l.lowest.0 < length l.core.scopes }
