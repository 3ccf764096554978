use Rattle.std.proofs.Common.{◌≡◌, ◌-◌, drop, length, map}
use Rattle.ng_fire.specs.Repeats.{bodies_at, rows_taken}
use Rattle.ng_fire.specs.RowsKnown.{HaveGone}
use Rattle.ng_fire.specs.Serving.{Keeps, RestStays}
use Rattle.ng_changes.specs.Whole.{IsWhole}
use Rattle.ng_instances.specs.InstanceOf.{body_of}
use Rattle.ng_link.specs.State.{state_of, templates_of}
use Rattle.ng_fire.proofs.repeats.take_rows.Given as goal

abbrev pub invariant-loop-k : goal.invariant-loop-k
invariant-loop-k l = record {
  state : state_of l.works ≡ rows_taken l.spot.holder.now (bodies_at (map body_of l.bodies) (drop (length l.gone - l.k) l.gone)) (state_of l.initial.works);
  gone : HaveGone l.spot.holder.now l.spot.outlet (bodies_at (map body_of l.bodies) (drop (length l.gone - l.k) l.gone)) (state_of l.initial.works).instances (state_of l.works).instances;
  keeps : Keeps l.spot.holder.now (state_of l.initial.works).instances (state_of l.works).instances;
  rest : RestStays l.spot.holder.now (bodies_at (map body_of l.bodies) (drop (length l.gone - l.k) l.gone)) (state_of l.initial.works).instances (state_of l.works).instances;
  core : l.works.core ≡ l.initial.works.core;
  whole : IsWhole l.works;
  templates : templates_of l.works ≡ templates_of l.initial.works;
}
