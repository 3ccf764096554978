use Rattle.std.proofs.Common.{◌≡◌, drop, map}
use Rattle.std.specs.List.{list_any}
use Rattle.ng_build.specs.Linking.{is_binds}
use Rattle.ng_build.specs.StepOf.{step_of}
use Rattle.ng_instances.proofs.linking.has_binds.Given as goal

abbrev pub invariant-loop-step : goal.invariant-loop-step
invariant-loop-step l = list_any is_binds (map step_of (drop l.step-index l.steps)) ≡ list_any is_binds (map step_of l.steps)
