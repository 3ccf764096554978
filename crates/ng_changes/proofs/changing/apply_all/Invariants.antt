use Rattle.std.proofs.Common.{◌≡◌, map, length}
use Rattle.std.specs.List.{AllByRecursion}
use Rattle.ng_core.specs.Frames.{change_of, ChangeStands}
use Rattle.ng_changes.specs.Changes.{applied_all}
use Rattle.ng_changes.specs.Whole.{IsWhole}
use Rattle.ng_link.specs.State.{state_of, templates_of}
use Rattle.ng_changes.proofs.changing.apply_all.Given as goal

abbrev pub invariant-loop-change : goal.invariant-loop-change
invariant-loop-change l = record {
  state : applied_all (map change_of l.change-iterator.rest.items) (state_of l.works) ≡ applied_all (map change_of l.initial.change-iterator.rest.items) (state_of l.initial.works);
  whole : IsWhole l.works;
  core : l.works.core ≡ l.initial.works.core;
  stand : AllByRecursion (ChangeStands (length l.works.core.scopes)) (map change_of l.change-iterator.rest.items);
  linked : (state_of l.works).instances ≡ (state_of l.initial.works).instances;
  templates : templates_of l.works ≡ templates_of l.initial.works;
}
