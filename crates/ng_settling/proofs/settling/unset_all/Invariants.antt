use Rattle.std.proofs.Common.{◌≡◌}
use Rattle.ng_settling.specs.Settling.{unset_all}
use Rattle.ng_changes.specs.Whole.{IsWhole}
use Rattle.ng_link.specs.State.{state_of, templates_of}
use Rattle.ng_settling.proofs.settling.unset_all.Given as goal

abbrev pub invariant-loop-key : goal.invariant-loop-key
invariant-loop-key l = record {
  state : unset_all l.key-iterator (state_of l.works) ≡ unset_all l.initial.key-iterator (state_of l.initial.works);
  whole : IsWhole l.works;
  core : l.works.core ≡ l.initial.works.core;
  templates : templates_of l.works ≡ templates_of l.initial.works;
}
