use Rattle.std.proofs.Common.{◌≡◌, ◌≤◌, drop, length, map}
use Rattle.ng_fire.specs.Blocks.{all_gone}
use Rattle.ng_fire.specs.FireOf.{firing}
use Rattle.ng_fire.specs.Serving.{AreHeldBy, Serves}
use Rattle.ng_changes.specs.Whole.{IsWhole}
use Rattle.ng_instances.specs.Instances.{Instances}
use Rattle.ng_instances.specs.InstanceOf.{body_of}
use Rattle.ng_link.specs.State.{state_of, templates_of}
use Rattle.ng_fire.proofs.blocks.take_bodies.Given as goal

abbrev pub invariant-loop-body : goal.invariant-loop-body
invariant-loop-body l = record {
  fired : all_gone l.holder (map body_of (drop l.body-index l.bodies)) (firing l.works l.told) ≡ all_gone l.holder (map body_of l.bodies) (firing l.initial.works l.initial.told);
  held : AreHeldBy l.holder (map body_of (drop l.body-index l.bodies)) (state_of l.works).instances;
  serves : (is : Instances) → Serves l.holder (map body_of (drop l.body-index l.bodies)) (state_of l.works).instances is → Serves l.holder (map body_of l.bodies) (state_of l.initial.works).instances is;
  grown : length l.initial.works.core.store ≤ length l.works.core.store;
  whole : IsWhole l.works;
  templates : templates_of l.works ≡ templates_of l.initial.works;
}
