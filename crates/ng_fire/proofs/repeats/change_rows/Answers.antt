use Rattle.std.proofs.Common.{◌≡◌, ◌∙◌, ℕ, List, ap, length, map, refl, subst, sym, arith}
use Rattle.std.proofs.lemmas.List.{length-map}
use Rattle.ng_base.specs.declared.name.ScopeId.{ScopeId}
use Rattle.ng_core.specs.declared.core_state.Core.{Core}
use Rattle.ng_drawing.specs.declared.origin.Origin.{Origin}
use Rattle.ng_drawing.specs.Template.{Repeated}
use Rattle.ng_changes.proofs.Answered.{ok_then, there}
use Rattle.ng_fire.proofs.BlockBodies.{outlet_there}
use Rattle.ng_fire.proofs.KeptRows.{rows_wider}
use Rattle.ng_fire.proofs.KeptScopes.{arranged_rows, rows_kept}
use Rattle.ng_fire.proofs.RowsLeft.{left_in_order}
use Rattle.ng_fire.proofs.RowsStay.{inside_other, none_round, row_inside}
use Rattle.ng_fire.proofs.RowsTaken.{arranged_keeps, arranged_whole, keeps_same, keeps_then, rows_among, rows_rearranged, spot_stays}
use Rattle.ng_fire.specs.Blocks.{Firing}
use Rattle.ng_fire.specs.FireOf.{firing}
use Rattle.ng_rows.specs.RepeatRows.{Row, kept_rows}
use Rattle.ng_fire.specs.Repeats.{all_ended, bodies_at, bodies_or, filled_to, rows_arranged, rows_at, rows_fired, rows_gone, rows_taken, with_state}
use Rattle.ng_rows.specs.RepeatsOf.{RowsOfStand, rows_of}
use Rattle.ng_fire.specs.RowsKnown.{AreKeptOn, AreRowsAt, HaveGone}
use Rattle.ng_fire.specs.Serving.{Keeps, RestStays}
use Rattle.ng_link.proofs.Lookups.{changed_other}
use Rattle.ng_link.specs.Calls.{arranged_at}
use Rattle.ng_instances.specs.Instances.{Body, Instances, bodies_arranged, linked_at}
use Rattle.ng_instances.specs.PlaceOf.{outlet_of_linked}
use Rattle.ng_link.specs.Events.{scopes_at}
use Rattle.ng_link.specs.Standing.{body_count}
use Rattle.ng_instances.specs.InstanceOf.{body_of}
use Rattle.ng_link.specs.State.{State, state_of, templates_of}
use Rattle.ng_parts.specs.RepeatedOf.{repeated_of}
use Rattle.ng_fire.proofs.repeats.change_rows.Goals as goal

pub take_rows-requires-clause-rows : goal.take_rows-requires-clause-rows
take_rows-requires-clause-rows c =
    let spot = c.args.spot.now in
    let bs : List Body = map body_of c.args.bodies.now in
    let m = c.end_rows.new.works in
    subst (λ (is : List ℕ). AreRowsAt spot.holder.now spot.outlet (bodies_at bs is) (state_of m).instances) (sym c.as_slice-2.ensures)
    (rows_among spot.holder.now spot.outlet bs c.args.plan.now.gone (rows_of c.args.rows.now) (state_of m).instances
    (ap (rows_at spot.holder.now spot.outlet) c.in_ok-end_rows.ensures.instances ∙ c.requires.stand) c.requires.all)

pub arrange_rows-requires-clause-same : goal.arrange_rows-requires-clause-same
arrange_rows-requires-clause-same c =
    let spot = c.args.spot.now in
    let bs : List Body = map body_of c.args.bodies.now in
    let m = c.end_rows.new.works in
    let t = c.take_rows.new.works in
    let left = subst (λ (is : List ℕ). HaveGone spot.holder.now spot.outlet (bodies_at bs is) (state_of m).instances (state_of t).instances) c.as_slice-2.ensures c.in_ok-take_rows.ensures.gone in
    rows_rearranged spot.holder.now spot.outlet bs c.args.plan.now.gone (rows_of c.args.rows.now) (state_of m).instances (state_of t).instances _
    (ap (rows_at spot.holder.now spot.outlet) c.in_ok-end_rows.ensures.instances ∙ c.requires.stand) c.requires.all left refl

pub arrange_rows-requires-clause-order : goal.arrange_rows-requires-clause-order
arrange_rows-requires-clause-order c =
    let spot = c.args.spot.now in
    let bs : List Body = map body_of c.args.bodies.now in
    let m = c.end_rows.new.works in
    let t = c.take_rows.new.works in
    let left = subst (λ (is : List ℕ). HaveGone spot.holder.now spot.outlet (bodies_at bs is) (state_of m).instances (state_of t).instances) c.as_slice-2.ensures c.in_ok-take_rows.ensures.gone in
    let taken = c.in_ok-take_rows.ensures.state ∙ ap (λ (is : List ℕ). rows_taken spot.holder.now (bodies_at bs is) (state_of m)) c.as_slice-2.ensures in
    λ ordered. left_in_order _ _ spot.holder.now spot.outlet bs c.args.plan.now.gone (rows_of c.args.rows.now) (state_of m) (state_of t) c.in_ok-end_rows.ensures.whole.standing.1.built.each
    (ap (rows_at spot.holder.now spot.outlet) c.in_ok-end_rows.ensures.instances ∙ c.requires.stand) c.requires.all left taken (c.requires.order ordered)

pub fire_rows-requires-clause-whole : goal.fire_rows-requires-clause-whole
fire_rows-requires-clause-whole c =
    arranged_whole c.take_rows.new.works c.arrange_rows.new.works c.args.spot.now.holder.now c.args.spot.now.outlet _ c.in_ok-take_rows.ensures.whole c.arrange_rows.ensures.core c.in_ok-arrange_rows.ensures.stands c.in_ok-arrange_rows.ensures.state

pub fire_rows-requires-clause-spot : goal.fire_rows-requires-clause-spot
fire_rows-requires-clause-spot c =
    let first = c.args.works.now in
    let m = c.end_rows.new.works in
    let t = c.take_rows.new.works in
    let v = c.arrange_rows.new.works in
    let spot = c.args.spot.now in
    let kept : List Body = kept_rows (rows_of c.args.rows.now) in
    let ended = keeps_same spot.holder.now (state_of first).instances (state_of m).instances c.in_ok-end_rows.ensures.instances in
    let taken = keeps_then spot.holder.now (state_of first).instances (state_of m).instances (state_of t).instances ended c.in_ok-take_rows.ensures.keeps in
    let arranged : Keeps spot.holder.now (state_of t).instances (state_of v).instances =
    subst (λ (is : Instances). Keeps spot.holder.now (state_of t).instances is) (sym (ap (λ (s : State). s.instances) c.in_ok-arrange_rows.ensures.state)) (arranged_keeps spot.holder.now spot.outlet kept (state_of t).instances) in
    spot_stays (templates_of first) (templates_of v) (state_of first).instances (state_of v).instances spot
    (c.arrange_rows.ensures.templates ∙ (c.take_rows.ensures.templates ∙ c.end_rows.ensures.templates))
    (keeps_then spot.holder.now (state_of first).instances (state_of t).instances (state_of v).instances taken arranged) c.requires.spot

pub fire_rows-requires-clause-rows : goal.fire_rows-requires-clause-rows
fire_rows-requires-clause-rows c =
    let first = c.args.works.now in
    let m = c.end_rows.new.works in
    let v = c.arrange_rows.new.works in
    let core = c.arrange_rows.ensures.core ∙ c.take_rows.ensures.core in
    subst (λ (x : Core). RowsOfStand (length x.store) (rows_of c.args.rows.now)) (sym core)
    (rows_wider (length first.core.store) (length m.core.store) c.in_ok-end_rows.ensures.grown (rows_of c.args.rows.now) c.requires.rows)

-- those that are kept are the rows that stand once they are put in order
pub fire_rows-requires-clause-scopes : goal.fire_rows-requires-clause-scopes
fire_rows-requires-clause-scopes c =
    let t = c.take_rows.new.works in
    let v = c.arrange_rows.new.works in
    let spot = c.args.spot.now in
    let holder : List ℕ = spot.holder.now in
    let o : ℕ = spot.outlet in
    let is : Instances = (state_of v).instances in
    let kept : List Body = kept_rows (rows_of c.args.rows.now) in
    let built = c.in_ok-arrange_rows.ensures.stands.1.built in
    let state = ap (λ (s : State). s.instances) c.in_ok-arrange_rows.ensures.state in
    let spot_now = fire_rows-requires-clause-spot c in
    let one = there (outlet_of_linked o (linked_at holder is)) (outlet_there holder o spot.scope.0 (map (λ (n : ScopeId). n.0) spot.outsides.now) is spot_now.outlet) in
    let same : one.0.bodies ≡ kept = arranged_rows holder o kept (state_of t).instances one.0 (sym (ap (λ (x : Instances). outlet_of_linked o (linked_at holder x)) state) ∙ one.1) in
    let found : map (λ (n : ScopeId). n.0) c.as_slice-3.result.now ≡ scopes_at kept is = ap (map (λ (n : ScopeId). n.0)) c.as_slice-3.ensures.value ∙ (c.in_ok-scopes.ensures one.0 one.1 ∙ ap (λ (bs : List Body). scopes_at bs is) same) in
    subst (AreKeptOn holder is kept) (sym found) (rows_kept _ _ holder o is built.each built.bodies kept (ap bodies_or one.1 ∙ same))

pub returns-clause-fired : goal.returns-clause-fired
returns-clause-fired c =
    let first = c.args.works.now in
    let m = c.end_rows.new.works in
    let after = c.end_rows.new.told in
    let t = c.take_rows.new.works in
    let v = c.arrange_rows.new.works in
    let spot = c.args.spot.now in
    let holder : List ℕ = spot.holder.now in
    let o : ℕ = spot.outlet in
    let which : Origin = spot.origin in
    let bs : List Body = map body_of c.args.bodies.now in
    let rows : List Row = rows_of c.args.rows.now in
    let gone : List Body = bodies_at bs c.args.plan.now.gone in
    let g : Firing = firing first c.args.told.now in
    let w : Repeated = repeated_of c.args.repeated.now in
    let scope : ℕ = spot.scope.0 in
    let outs : List ℕ = map (λ (n : ScopeId). n.0) spot.outsides.now in
    let ended : firing m after ≡ all_ended gone g = c.in_ok-end_rows.ensures.fired ∙ ap (λ (is : List ℕ). all_ended (bodies_at bs is) g) c.as_slice.ensures in
    let taken : state_of t ≡ rows_taken holder gone (state_of m) = c.in_ok-take_rows.ensures.state ∙ ap (λ (is : List ℕ). rows_taken holder (bodies_at bs is) (state_of m)) c.as_slice-2.ensures in
    let state : state_of v ≡ arranged_at holder o (kept_rows rows) (rows_taken holder gone (state_of m)) =
    c.in_ok-arrange_rows.ensures.state ∙ ap (arranged_at holder o (kept_rows rows)) taken in
    let ready : firing v after ≡ rows_arranged holder o (kept_rows rows) (rows_gone holder gone g) =
    ap (λ (s : State). with_state s (firing m after)) state ∙ ap (λ (h : Firing). rows_arranged holder o (kept_rows rows) (with_state (rows_taken holder gone h.state) h)) ended in
    let many = c.in_ok-ground.ensures.count ∙ sym (length-map c.args.rows.now _) in
    ok_then c.fire_rows.result c.fire_rows.ensures.fired
    (λ fired. fired
    ∙ (ap (λ (x : Repeated). (rows_fired holder scope outs o which x c.in_ok-ground.ground.count 0 rows (filled_to 0 (firing v after))).firing) (ap repeated_of c.in_ok-ground.ensures.repeated)
    ∙ (ap (λ (n : ℕ). (rows_fired holder scope outs o which w n 0 rows (filled_to 0 (firing v after))).firing) many
    ∙ ap (λ (h : Firing). (rows_fired holder scope outs o which w (length rows) 0 rows (filled_to 0 h)).firing) ready)))

pub returns-clause-keeps : goal.returns-clause-keeps
returns-clause-keeps c =
    let first = c.args.works.now in
    let m = c.end_rows.new.works in
    let t = c.take_rows.new.works in
    let v = c.arrange_rows.new.works in
    let spot = c.args.spot.now in
    let kept : List Body = kept_rows (rows_of c.args.rows.now) in
    let ended = keeps_same spot.holder.now (state_of first).instances (state_of m).instances c.in_ok-end_rows.ensures.instances in
    let taken = keeps_then spot.holder.now (state_of first).instances (state_of m).instances (state_of t).instances ended c.in_ok-take_rows.ensures.keeps in
    let arranged : Keeps spot.holder.now (state_of t).instances (state_of v).instances =
    subst (λ (is : Instances). Keeps spot.holder.now (state_of t).instances is) (sym (ap (λ (s : State). s.instances) c.in_ok-arrange_rows.ensures.state)) (arranged_keeps spot.holder.now spot.outlet kept (state_of t).instances) in
    ok_then c.fire_rows.result c.fire_rows.ensures.keeps
    (λ more. keeps_then spot.holder.now (state_of first).instances (state_of v).instances (state_of c.fire_rows.new.works).instances
    (keeps_then spot.holder.now (state_of first).instances (state_of t).instances (state_of v).instances taken arranged) more)

pub returns-clause-kept : goal.returns-clause-kept
returns-clause-kept c =
    let first = c.args.works.now in
    let m = c.end_rows.new.works in
    let t = c.take_rows.new.works in
    let spot = c.args.spot.now in
    let holder : List ℕ = spot.holder.now in
    let o : ℕ = spot.outlet in
    let bs : List Body = map body_of c.args.bodies.now in
    let kept : List Body = kept_rows (rows_of c.args.rows.now) in
    let rest = subst (λ (is : List ℕ). RestStays holder (bodies_at bs is) (state_of m).instances (state_of t).instances) c.as_slice-2.ensures c.in_ok-take_rows.ensures.rest in
    ok_then c.fire_rows.result c.fire_rows.ensures.others
    (λ others q l some at.
    (let both = c.requires.all q in
    let here = ap (body_count q) c.requires.stand in
    let built = c.requires.whole.standing.1.built in
    let inside = row_inside _ _ holder o (state_of first).instances built.each q (omega (arith, some, both, here)) in
    let none : body_count q (bodies_at bs c.args.plan.now.gone) ≡ 0 = (let most = inside.2 in omega (arith, some, both, here, most)) in
    let round = none_round (state_of first).instances built.bodies holder q inside.1 (bodies_at bs c.args.plan.now.gone)
    (λ b lt. (let all = c.requires.all b.path in let stand = ap (body_count b.path) c.requires.stand in let its = row_inside _ _ holder o (state_of first).instances built.each b.path (omega (arith, lt, all, stand)) in (its.1, its.0))) none in
    let off = inside_other holder q inside.0 in
    others q l off
    (ap (λ (s : State). linked_at q s.instances) c.in_ok-arrange_rows.ensures.state
    ∙ (changed_other holder (bodies_arranged o kept) (state_of t).instances q off
    ∙ (rest q inside.0 round ∙ (ap (linked_at q) c.in_ok-end_rows.ensures.instances ∙ at))))))
