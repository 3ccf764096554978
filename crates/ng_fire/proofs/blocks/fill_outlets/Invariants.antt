use Rattle.std.proofs.Common.{◌≡◌, drop, length, map}
use Rattle.std.specs.List.{AllByRecursion}
use Rattle.ng_rows.specs.Chosen.{cases_due}
use Rattle.ng_fire.specs.SiteFires.{outlets_filled}
use Rattle.ng_fire.specs.FireOf.{firing}
use Rattle.ng_fire.specs.Serving.{IsThere}
use Rattle.ng_changes.specs.Whole.{IsWhole}
use Rattle.ng_language.specs.Views.{ViewStands}
use Rattle.ng_instances.specs.Due.{due_of}
use Rattle.ng_link.specs.State.{state_of, templates_of}
use Rattle.ng_value.specs.Snaps.{snap_of}
use Rattle.ng_fire.proofs.blocks.fill_outlets.Given as goal

abbrev pub invariant-loop-due : goal.invariant-loop-due
invariant-loop-due l = record {
  fired : outlets_filled l.holder (cases_due (map due_of l.all)) (snap_of l.value) (map due_of (drop l.due-index l.all)) (firing l.works l.told)
      ≡ outlets_filled l.holder (cases_due (map due_of l.all)) (snap_of l.value) (map due_of l.all) (firing l.initial.works l.initial.told);
  there : AllByRecursion (IsThere (templates_of l.works) l.holder (state_of l.works).instances) (map due_of (drop l.due-index l.all));
  value : ViewStands (length (l.works).core.store) (snap_of l.value);
  whole : IsWhole l.works;
  templates : templates_of l.works ≡ templates_of l.initial.works;
}
