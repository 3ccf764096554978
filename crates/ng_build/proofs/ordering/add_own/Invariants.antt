use Rattle.std.proofs.Common.{◌≡◌, ◌++◌, drop, map}
use Rattle.ng_build.specs.Linking.{registers}
use Rattle.ng_build.specs.StepOf.{step_of}
use Rattle.ng_build.proofs.ordering.add_own.Given as goal

abbrev pub invariant-loop : goal.invariant-loop
invariant-loop l = map step_of l.order.items ++ map (λ n. registers) (drop l.index l.own) ≡ map step_of l.initial.order.items ++ map (λ n. registers) l.own
