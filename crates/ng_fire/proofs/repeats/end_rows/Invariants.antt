use Rattle.std.proofs.Common.{◌≡◌, ◌≤◌, drop, length, map}
use Rattle.ng_fire.specs.FireOf.{firing}
use Rattle.ng_fire.specs.Repeats.{all_ended, bodies_at}
use Rattle.ng_changes.specs.Whole.{IsWhole}
use Rattle.ng_instances.specs.InstanceOf.{body_of}
use Rattle.ng_link.specs.State.{state_of, templates_of}
use Rattle.ng_fire.proofs.repeats.end_rows.Given as goal

abbrev pub invariant-loop-i : goal.invariant-loop-i
invariant-loop-i l = record {
  fired : all_ended (bodies_at (map body_of l.bodies) (drop l.i-index l.gone)) (firing l.works l.told) ≡ all_ended (bodies_at (map body_of l.bodies) l.gone) (firing l.initial.works l.initial.told);
  instances : (state_of l.works).instances ≡ (state_of l.initial.works).instances;
  grown : length l.initial.works.core.store ≤ length l.works.core.store;
  whole : IsWhole l.works;
  templates : templates_of l.works ≡ templates_of l.initial.works;
}
