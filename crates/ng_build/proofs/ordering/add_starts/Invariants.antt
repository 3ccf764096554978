use Rattle.std.proofs.Common.{◌≡◌, ◌++◌, drop, map}
use Rattle.ng_parse.specs.ProgramOf.{program}
use Rattle.ng_build.specs.Linking.{starts}
use Rattle.ng_build.specs.StepOf.{step_of}
use Rattle.ng_build.proofs.ordering.add_starts.Given as goal

abbrev pub invariant-loop-p : goal.invariant-loop-p
invariant-loop-p l = map step_of l.order.items ++ map (starts l.scope) (map program (drop l.p-index l.programs)) ≡ map step_of l.initial.order.items ++ map (starts l.scope) (map program l.programs)
