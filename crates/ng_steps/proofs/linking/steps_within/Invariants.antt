use Rattle.std.proofs.Common.{◌≡◌, ◌++◌, drop, take, map}
use Rattle.ng_build.specs.Linking.{fault_in, steps_within}
use Rattle.ng_build.specs.StepOf.{step_of}
use Rattle.ng_steps.proofs.linking.steps_within.Given as goal

abbrev pub invariant-loop-i : goal.invariant-loop-i
invariant-loop-i l = record {
  steps : map step_of (take l.i l.steps) ++ steps_within l.left (map step_of (drop l.i l.steps)) ≡ steps_within l.room (map step_of l.steps);
  fault : fault_in l.left (map step_of (drop l.i l.steps)) ≡ fault_in l.room (map step_of l.steps);
}
