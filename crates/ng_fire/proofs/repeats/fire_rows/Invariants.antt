use Rattle.std.proofs.Common.{◌≡◌, ◌≤◌, drop, length, map}
use Rattle.ng_base.specs.declared.name.ScopeId.{ScopeId}
use Rattle.ng_fire.specs.FireOf.{firing}
use Rattle.ng_fire.specs.Repeats.{filled_to, rows_fired}
use Rattle.ng_rows.specs.RepeatsOf.{RowsOfStand, rows_of}
use Rattle.ng_rows.specs.RepeatRows.{kept_rows}
use Rattle.ng_fire.specs.RowsKnown.{AreKeptOn}
use Rattle.ng_fire.specs.Serving.{Keeps, OthersStay}
use Rattle.ng_changes.specs.Whole.{IsWhole}
use Rattle.ng_link.specs.State.{state_of, templates_of}
use Rattle.ng_parts.specs.RepeatedOf.{repeated_of}
use Rattle.ng_fire.proofs.repeats.fire_rows.Given as goal

abbrev pub invariant-loop-i : goal.invariant-loop-i
invariant-loop-i l = record {
  fired : (rows_fired l.spot.holder.now l.spot.scope.0 (map (λ (n : ScopeId). n.0) l.spot.outsides.now) l.spot.outlet l.spot.origin (repeated_of l.ground.repeated.now) l.ground.count l.i (rows_of (drop l.i l.rows)) (filled_to l.at (firing l.works l.told))).firing
      ≡ (rows_fired l.spot.holder.now l.spot.scope.0 (map (λ (n : ScopeId). n.0) l.spot.outsides.now) l.spot.outlet l.spot.origin (repeated_of l.ground.repeated.now) l.ground.count 0 (rows_of l.rows) (filled_to 0 (firing l.initial.works l.initial.told))).firing;
  few : l.at ≤ l.i;
  keeps : Keeps l.spot.holder.now (state_of l.initial.works).instances (state_of l.works).instances;
  others : OthersStay l.spot.holder.now (state_of l.initial.works).instances (state_of l.works).instances;
  kept : AreKeptOn l.spot.holder.now (state_of l.works).instances (kept_rows (rows_of (drop l.i l.rows))) (map (λ (n : ScopeId). n.0) l.left);
  rows : RowsOfStand (length l.works.core.store) (rows_of (drop l.i l.rows));
  grown : length l.initial.works.core.store ≤ length l.works.core.store;
  whole : IsWhole l.works;
  templates : templates_of l.works ≡ templates_of l.initial.works;
}
