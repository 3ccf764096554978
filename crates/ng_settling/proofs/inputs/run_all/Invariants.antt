use Rattle.std.proofs.Common.{◌≡◌, ◌<◌, drop, length, map}
use Rattle.ng_parse.specs.ProgramOf.{program}
use Rattle.ng_settling.specs.Inputs.{all_run}
use Rattle.ng_changes.specs.Whole.{IsWhole}
use Rattle.ng_link.specs.State.{state_of, templates_of}
use Rattle.ng_settling.proofs.inputs.run_all.Given as goal

abbrev pub invariant-loop-p : goal.invariant-loop-p
invariant-loop-p l = record {
  whole : IsWhole l.works;
  scope : l.scope.0 < length l.works.core.scopes;
  state : all_run l.scope.0 (map program (drop l.p-index l.programs)) (state_of l.works) ≡ all_run l.scope.0 (map program l.programs) (state_of l.initial.works);
  linked : (state_of l.works).instances ≡ (state_of l.initial.works).instances;
  templates : templates_of l.works ≡ templates_of l.initial.works;
}
