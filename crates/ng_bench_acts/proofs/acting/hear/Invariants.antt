use Rattle.std.proofs.Common.{◌≡◌, length}
use Rattle.ng_core.specs.Frames.{IsSound}
use Rattle.ng_bench_acts.proofs.acting.hear.Given as goal

abbrev pub invariant-loop : goal.invariant-loop
invariant-loop l = record { sound : IsSound l.core; count : length l.core.scopes ≡ length l.initial.core.scopes }
