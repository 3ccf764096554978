use Rattle.std.proofs.Common.{◌≡◌, ◌≤◌, drop, length, map}
use Rattle.std.specs.List.{AllByRecursion}
use Rattle.ng_drawing.specs.Template.{Fragment}
use Rattle.ng_steps.specs.Links.{steps_linked}
use Rattle.ng_steps.specs.LinkingOf.{linking, HasPrograms, IsGrounded}
use Rattle.ng_changes.specs.Whole.{IsWhole}
use Rattle.ng_link.specs.State.{templates_of}
use Rattle.ng_build.specs.StepOf.{step_of}
use Rattle.ng_link.specs.OrderOf.{IsOrderOf}
use Rattle.ng_steps.proofs.stepping.link_steps.Given as goal

abbrev pub invariant-loop-step : goal.invariant-loop-step
invariant-loop-step l = record {
  steps : (f : Fragment) → IsOrderOf f l.order → AllByRecursion (HasPrograms f l.order) (map step_of l.steps) → AllByRecursion (HasPrograms f l.order) (map step_of (drop l.step-index l.steps))
      × (steps_linked f (map step_of (drop l.step-index l.steps)) (linking l.works l.done) ≡ steps_linked f (map step_of l.steps) (linking l.initial.works l.initial.done));
  grounded : IsGrounded l.works l.done;
  grown : length l.initial.works.core.store ≤ length l.works.core.store;
  whole : IsWhole l.works;
  templates : templates_of l.works ≡ templates_of l.initial.works;
}
