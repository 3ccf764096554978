use Rattle.std.proofs.Common.{◌≡◌, ◌∙◌, ◌+◌, ℕ, suc, List, ◌∷◌, ap, drop, length, map, refl, sym, subst, arith}
use Rattle.ng_base.specs.declared.name.ScopeId.{ScopeId}
use Rattle.ng_drawing.specs.declared.origin.Origin.{Origin}
use Rattle.ng_changes.proofs.Answered.{dropped}
use Rattle.ng_fire.proofs.KeptRows.{rows_wider}
use Rattle.ng_fire.proofs.KeptScopes.{kept_scope, kept_stay}
use Rattle.ng_fire.proofs.RowsStay.{others_same, others_then}
use Rattle.ng_fire.proofs.RowsTaken.{keeps_same, keeps_then, spot_stays}
use Rattle.ng_fire.specs.FireOf.{firing}
use Rattle.ng_rows.specs.RepeatRows.{Row, kept_rows, row_names}
use Rattle.ng_fire.specs.Repeats.{Filled, filled_to, row_fired, rows_fired}
use Rattle.ng_rows.specs.RepeatsOf.{RowsOfStand, row_of, rows_of}
use Rattle.ng_fire.specs.RowsKnown.{AreKeptOn}
use Rattle.ng_instances.specs.Instances.{Instances}
use Rattle.ng_link.specs.State.{state_of, templates_of}
use Rattle.ng_parts.specs.RepeatedOf.{repeated_of}
use Rattle.ng_fire.proofs.repeats.fire_rows.Goals as goal

pub fire_row-requires-clause-spot : goal.fire_row-requires-clause-spot
fire_row-requires-clause-spot c =
    let l = c.loop-i in
    let first = c.args.works.now in
    spot_stays (templates_of first) (templates_of l.works) (state_of first).instances (state_of l.works).instances c.args.spot.now l.invariant.templates l.invariant.keeps c.requires.spot

pub fire_row-requires-clause-row : goal.fire_row-requires-clause-row
fire_row-requires-clause-row c =
    let l = c.loop-i in
    let rows = c.args.rows.now in
    let r : Row = row_of c.index-rows-i.result in
    let e : rows_of (drop l.i rows) ≡ r ∷ rows_of (drop (l.i + 1) rows) = ap rows_of (dropped rows l.i c.index-rows-i.result c.loop-i-test.true c.index-rows-i.is) in
    (subst (λ (rs : List Row). RowsOfStand (length l.works.core.store) rs) e l.invariant.rows).0

pub fire_row-requires-clause-scope : goal.fire_row-requires-clause-scope
fire_row-requires-clause-scope c =
    let l = c.loop-i in
    let rows = c.args.rows.now in
    let holder : List ℕ = c.args.spot.now.holder.now in
    let is : Instances = (state_of l.works).instances in
    let ns : List ℕ = map (λ (n : ScopeId). n.0) l.left.now in
    let r : Row = row_of c.index-rows-i.result in
    let rest : List Row = rows_of (drop (l.i + 1) rows) in
    let e : rows_of (drop l.i rows) ≡ r ∷ rest = ap rows_of (dropped rows l.i c.index-rows-i.result c.loop-i-test.true c.index-rows-i.is) in
    kept_scope holder is c.scope_for.result.0.0 r.from (c.scope_for.ensures holder is rest (subst (λ (rs : List Row). AreKeptOn holder is (kept_rows rs) ns) e l.invariant.kept)).0

pub loop-i-init : goal.loop-i-init
loop-i-init c = record {
  fired = refl;
  few = omega arith;
  keeps = keeps_same c.args.spot.now.holder.now (state_of c.args.works.now).instances (state_of c.args.works.now).instances refl;
  others = others_same c.args.spot.now.holder.now (state_of c.args.works.now).instances (state_of c.args.works.now).instances refl;
  kept = c.requires.scopes;
  rows = c.requires.rows;
  grown = omega arith;
  whole = c.requires.whole;
  templates = refl;
}

pub loop-i-preserved : goal.loop-i-preserved
loop-i-preserved c =
    let l = c.loop-i in
    let w = c.fire_row.new.works in
    let first = c.args.works.now in
    let ground = c.args.ground.now in
    let spot = c.args.spot.now in
    let holder : List ℕ = spot.holder.now in
    let o : ℕ = spot.outlet in
    let which : Origin = spot.origin in
    let repeated = repeated_of ground.repeated.now in
    let count : ℕ = ground.count in
    let rows = c.args.rows.now in
    let r : Row = row_of c.index-rows-i.result in
    let rest : List Row = rows_of (drop (l.i + 1) rows) in
    let e : rows_of (drop l.i rows) ≡ r ∷ rest = ap rows_of (dropped rows l.i c.index-rows-i.result c.loop-i-test.true c.index-rows-i.is) in
    let scope : ℕ = spot.scope.0 in
    let outs : List ℕ = map (λ (n : ScopeId). n.0) spot.outsides.now in
    let before : Filled = filled_to l.at (firing l.works l.told) in
    let done = c.in_ok-at.ensures in
    let place = c.in_ok-place.ensures in
    let names = row_names repeated count l.i r.item in
    let next : l.i + 1 ≡ suc l.i = omega arith in
    record {
      fired = ap (λ (f : Filled). (rows_fired holder scope outs o which repeated count (l.i + 1) rest f).firing) done.fired
          ∙ (ap (λ (k : ℕ). (rows_fired holder scope outs o which repeated count (l.i + 1) rest (row_fired holder scope outs o which r (row_names repeated count k r.item) r.from before)).firing) place
          ∙ (ap (λ (n : ℕ). (rows_fired holder scope outs o which repeated count n rest (row_fired holder scope outs o which r names r.from before)).firing) next
          ∙ (sym (ap (λ (rs : List Row). (rows_fired holder scope outs o which repeated count l.i rs before).firing) e) ∙ l.invariant.fired)));
      few = (let most = done.few in omega (arith, most, place));
      keeps = keeps_then holder (state_of first).instances (state_of l.works).instances (state_of w).instances l.invariant.keeps done.keeps;
      others = others_then holder (state_of first).instances (state_of l.works).instances (state_of w).instances l.invariant.others done.others;
      kept = kept_stay holder (state_of l.works).instances (state_of w).instances done.others (kept_rows rest) (map (λ (n : ScopeId). n.0) c.scope_for.result.1.now)
          (c.scope_for.ensures holder (state_of l.works).instances rest (subst (λ (rs : List Row). AreKeptOn holder (state_of l.works).instances (kept_rows rs) (map (λ (n : ScopeId). n.0) l.left.now)) e l.invariant.kept)).1;
      rows = rows_wider (length l.works.core.store) (length w.core.store) done.grown rest (subst (λ (rs : List Row). RowsOfStand (length l.works.core.store) rs) e l.invariant.rows).1;
      grown = (let one = done.grown in let all = l.invariant.grown in omega (arith, one, all));
      whole = done.whole;
      templates = c.fire_row.ensures.templates ∙ l.invariant.templates;
    }
