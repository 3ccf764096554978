use Rattle.std.proofs.Common.{◌≡◌, ◌≤◌, drop, length, map}
use Rattle.std.specs.List.{AllByRecursion}
use Rattle.ng_fire.specs.Blocks.{outlets_emptied}
use Rattle.ng_fire.specs.FireOf.{firing}
use Rattle.ng_fire.specs.Serving.{IsThere, AreDue}
use Rattle.ng_changes.specs.Whole.{IsWhole}
use Rattle.ng_instances.specs.Due.{due_of}
use Rattle.ng_link.specs.State.{state_of, templates_of}
use Rattle.ng_value.specs.Snaps.{snap_of}
use Rattle.ng_fire.proofs.blocks.empty_outlets.Given as goal

abbrev pub invariant-loop-due : goal.invariant-loop-due
invariant-loop-due l = record {
  fired : outlets_emptied l.holder (snap_of l.value) (map due_of (drop l.due-index l.all)) (firing l.works l.told) ≡ outlets_emptied l.holder (snap_of l.value) (map due_of l.all) (firing l.initial.works l.initial.told);
  due : AreDue (templates_of l.works) l.holder (state_of l.works).instances (map due_of (drop l.due-index l.all));
  there : AllByRecursion (IsThere (templates_of l.works) l.holder (state_of l.works).instances) (map due_of l.all);
  grown : length l.initial.works.core.store ≤ length l.works.core.store;
  whole : IsWhole l.works;
  templates : templates_of l.works ≡ templates_of l.initial.works;
}
