use Rattle.std.proofs.Common.{◌≡◌, ◌∙◌, ℕ, List, ap, length, map, slice_get, subst, sym, Some}
use Rattle.ng_core.proofs.MoreScopes.{ok_and}
use Rattle.ng_changes.proofs.Answered.{ok_then}
use Rattle.ng_steps.proofs.Placed.{unlinked_stays}
use Rattle.ng_fire.proofs.RowsStay.{one_rest}
use Rattle.ng_rows.proofs.RowAt.{row_at}
use Rattle.ng_fire.proofs.RowsTaken.{one_gone, one_held, one_keeps}
use Rattle.ng_changes.proofs.Wholes.{Stays, stays_of, whole_by}
use Rattle.ng_fire.specs.Repeats.{body_at, rows_taken}
use Rattle.ng_fire.specs.RowsKnown.{AreRowsAt, HaveGone}
use Rattle.ng_fire.specs.Serving.{RestStays}
use Rattle.ng_link.specs.Calls.{unlinked_at}
use Rattle.ng_instances.specs.Instances.{Body}
use Rattle.ng_link.specs.Standing.{IsHeldIn}
use Rattle.ng_instances.specs.InstanceOf.{body_of}
use Rattle.ng_link.specs.State.{State, state_of}
use Rattle.std.specs.Prelude.{Option}
use Rattle.ng_fire.proofs.repeats.take_row.Goals as goal

pub unlink-requires-clause-held : goal.unlink-requires-clause-held
unlink-requires-clause-held c =
    let w = c.args.works.now in
    let b : Body = body_of c.in-Some.body.now in
    let get : slice_get (map body_of c.args.bodies.now) c.args.i ≡ Some b = row_at c.args.bodies.now c.args.i c.in-Some.body.now c.in-Some.ensures.lookup.3.0 c.in-Some.ensures.lookup.1 in
    let asked = subst (λ (x : Option Body). AreRowsAt c.args.spot.now.holder.now c.args.spot.now.outlet (body_at x) (state_of w).instances) get c.requires.row in
    subst (λ (p : List ℕ). IsHeldIn c.args.spot.now.holder.now p (state_of w).instances) (sym c.path.ensures) (one_held _ _ c.args.spot.now.holder.now c.args.spot.now.outlet b (state_of w) c.requires.whole.standing.1.built.each asked)

pub returns-in-Some-clause-state : goal.returns-in-Some-clause-state
returns-in-Some-clause-state c =
    let s = state_of c.args.works.now in
    let holder : List ℕ = c.args.spot.now.holder.now in
    let b : Body = body_of c.in-Some.body.now in
    let get : slice_get (map body_of c.args.bodies.now) c.args.i ≡ Some b = row_at c.args.bodies.now c.args.i c.in-Some.body.now c.in-Some.ensures.lookup.3.0 c.in-Some.ensures.lookup.1 in
    ok_then c.unlink.result c.unlink.ensures.state
    (λ state. state ∙ (ap (λ (p : List ℕ). unlinked_at holder p s) c.path.ensures ∙ sym (ap (λ (x : Option Body). rows_taken holder (body_at x) s) get)))

pub returns-in-Some-clause-gone : goal.returns-in-Some-clause-gone
returns-in-Some-clause-gone c =
    let w = c.args.works.now in
    let b : Body = body_of c.in-Some.body.now in
    let get : slice_get (map body_of c.args.bodies.now) c.args.i ≡ Some b = row_at c.args.bodies.now c.args.i c.in-Some.body.now c.in-Some.ensures.lookup.3.0 c.in-Some.ensures.lookup.1 in
    let asked = subst (λ (x : Option Body). AreRowsAt c.args.spot.now.holder.now c.args.spot.now.outlet (body_at x) (state_of w).instances) get c.requires.row in
    ok_then c.unlink.result c.unlink.ensures.state
    (λ state. subst (λ (x : Option Body). HaveGone c.args.spot.now.holder.now c.args.spot.now.outlet (body_at x) (state_of w).instances (state_of c.unlink.new.self).instances) (sym get)
    (one_gone _ _ c.args.spot.now.holder.now c.args.spot.now.outlet b (state_of w) c.requires.whole.standing.1.built.each asked (state_of c.unlink.new.self) (state ∙ ap (λ (p : List ℕ). unlinked_at c.args.spot.now.holder.now p (state_of w)) c.path.ensures)))

pub returns-in-Some-clause-keeps : goal.returns-in-Some-clause-keeps
returns-in-Some-clause-keeps c =
    let w = c.args.works.now in
    let b : Body = body_of c.in-Some.body.now in
    let get : slice_get (map body_of c.args.bodies.now) c.args.i ≡ Some b = row_at c.args.bodies.now c.args.i c.in-Some.body.now c.in-Some.ensures.lookup.3.0 c.in-Some.ensures.lookup.1 in
    let asked = subst (λ (x : Option Body). AreRowsAt c.args.spot.now.holder.now c.args.spot.now.outlet (body_at x) (state_of w).instances) get c.requires.row in
    ok_then c.unlink.result c.unlink.ensures.state
    (λ state. one_keeps _ _ c.args.spot.now.holder.now c.args.spot.now.outlet b (state_of w) c.requires.whole.standing.1.built.each asked (state_of c.unlink.new.self) (state ∙ ap (λ (p : List ℕ). unlinked_at c.args.spot.now.holder.now p (state_of w)) c.path.ensures))

pub returns-in-Some-clause-rest : goal.returns-in-Some-clause-rest
returns-in-Some-clause-rest c =
    let w = c.args.works.now in
    let b : Body = body_of c.in-Some.body.now in
    let get : slice_get (map body_of c.args.bodies.now) c.args.i ≡ Some b = row_at c.args.bodies.now c.args.i c.in-Some.body.now c.in-Some.ensures.lookup.3.0 c.in-Some.ensures.lookup.1 in
    ok_then c.unlink.result c.unlink.ensures.state
    (λ state. subst (λ (x : Option Body). RestStays c.args.spot.now.holder.now (body_at x) (state_of w).instances (state_of c.unlink.new.self).instances) (sym get)
    (one_rest c.args.spot.now.holder.now b (state_of w) (state_of c.unlink.new.self) (state ∙ ap (λ (p : List ℕ). unlinked_at c.args.spot.now.holder.now p (state_of w)) c.path.ensures)))

pub returns-in-Some-clause-whole : goal.returns-in-Some-clause-whole
returns-in-Some-clause-whole c =
    let m = c.args.works.now in
    let w = c.unlink.new.self in
    let b : Body = body_of c.in-Some.body.now in
    let get : slice_get (map body_of c.args.bodies.now) c.args.i ≡ Some b = row_at c.args.bodies.now c.args.i c.in-Some.body.now c.in-Some.ensures.lookup.3.0 c.in-Some.ensures.lookup.1 in
    let asked = subst (λ (x : Option Body). AreRowsAt c.args.spot.now.holder.now c.args.spot.now.outlet (body_at x) (state_of m).instances) get c.requires.row in
    let standing = c.requires.whole.standing.1 in
    let held = one_held _ _ c.args.spot.now.holder.now c.args.spot.now.outlet b (state_of m) standing.built.each asked in
    let there = subst (λ (p : List ℕ). IsHeldIn c.args.spot.now.holder.now p (state_of m).instances) (sym c.path.ensures) held in
    ok_and c.unlink.result c.unlink.ensures.state c.unlink.ensures.stands
    (λ state stands. whole_by m w c.requires.whole c.unlink.ensures.core stands
    (subst (λ (s : State). Stays m.core.scopes (length m.core.store) s) (sym state)
    (unlinked_stays m.core.scopes (length m.core.store) c.args.spot.now.holder.now c.path.result.now (state_of m) standing.inner (standing.built.bodies.linked c.args.spot.now.holder.now c.path.result.now there) (stays_of m c.requires.whole))))
