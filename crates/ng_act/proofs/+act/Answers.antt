use Rattle.std.proofs.Common.{◌≡◌, ◌<◌, ◌-◌, ◌+◌, ℕ, length, map, Some, refl, ap, ◌∙◌, sym, arith, subst, option_map, max}
use Rattle.ng_base.specs.Views.{views_list}
use Rattle.ng_base.specs.ViewOf.{view_of, views_of, field_of}
use Rattle.ng_base.specs.declared.name.ScopeId.{ScopeId}
use Rattle.ng_base.specs.declared.view.Views.{Views}
use Rattle.ng_events.specs.Stands.{Ends}
use Rattle.ng_language.specs.Heights.{heights, pair_heights, height, pair_height}
use Rattle.ng_language.specs.Trees.{Trees, trees_from, pairs_from}
use Rattle.ng_parse.specs.ProgramOf.{program}
use Rattle.ng_parse.specs.TreeOf.{tree, pair_tree}
use Rattle.ng_write.proofs.More.{view_more}
use Rattle.ng_act.specs.Asked.{an_emit, a_broadcast}
use Rattle.ng_act.specs.Expressions.{acted, programmed}
use Rattle.ng_act.specs.Emitting.{rises, sweeps}
use Rattle.ng_act.specs.Actions.{does}
use Rattle.ng_core.specs.EventOf.{event_of}
use Rattle.ng_core.specs.Frames.{Acts, state_of, held}
use Rattle.ng_core.specs.PlaceOf.{place_of}
use Rattle.ng_core.specs.State.{with_locals}
use Rattle.ng_act.specs.Turns.{closed}
use Rattle.ng_act.proofs.Parts.{all_and, all_ends, all_pushed, call_ends, fields_and, filter_ends, held_same, left_index_ends, left_item_ends, left_member_ends, left_name_ends, made_index_ends, made_item_acts, made_item_ends, made_member_acts, made_member_ends, made_name_ends, ok_then, pairs_end, pairs_put, place_more, bare_kept, entered_less, inside_kept, open_kept, walks_kept, target_more}
use Rattle.ng_act.proofs.Others.{item_is, made_other, member_is, reached_other, whole_called}
use Rattle.ng_act.proofs.Opened.{acts_as, body_acts, event_acts, heard_run}
use Rattle.ng_act.proofs.Steps.{expr_low, pair_low, rise_step, rise_stop, sweep_step}
use Rattle.ng_core.proofs.Targets.{target_stands, value_target_stands}
use Rattle.ng_act.proofs.Keeping.{kept_same, kept_on, kept_by, kept_within, asked, fell_by, same_height, left_height, right_height, middle_height, last_height}
use Rattle.ng_act.proofs.Turns.{ahead_falls, bare_ended, closed_begun, closed_ended, closed_gone, closed_same, open_same, turn_kept, walk_end}
use Rattle.ng_act.proofs.Arms.{bracketed_is, unary_is, binary_is, both_is, either_is, choice_is, assign_is, acted_as, whole_asked, part_asked, part_low}
use Rattle.ng_act.proofs.+act.Goals as goal

pub series::acted_all-loop-item-preserved : goal.series::acted_all-loop-item-preserved
series::acted_all-loop-item-preserved t c =
    let less : c.loop-item.item-index < length c.args.items.now = omega arith in
    let low = expr_low c.args.items.now c.loop-item.item-index c.item-item.result (heights (trees_from (map tree c.args.items.now))) less c.item-item.is c.loop-item.invariant.low in
    record {
      low = low.1;
      kept = kept_on c.args.core.now c.loop-item.core c.acted.new.core c.loop-item.invariant.kept c.acted.ensures.kept;
      stands = all_and (length c.loop-item.core.store) (length c.acted.new.core.store) (views_list (views_of c.loop-item.views)) (views_list (views_of c.push.new.self)) (view_of c.in_ok-v.v) c.acted.ensures.kept.grown c.in_ok-push.ensures.ok c.loop-item.invariant.stands c.in_ok-v.ensures.stands;
      same = all_pushed c.args.core.now.depth c.loop-item.core.depth c.args.scope.0 c.loop-item.item-index c.args.items.now c.item-item.result (views_list (views_of c.loop-item.views)) (views_list (views_of c.push.new.self)) (view_of c.in_ok-v.v) (state_of c.loop-item.core) (state_of c.acted.new.core) _ c.in_ok-push.ensures.ok less c.item-item.is c.loop-item.invariant.kept.depth c.in_ok-v.ensures.run c.loop-item.invariant.same;
    }

pub series::acted_all-returns-in_err-v-clause-run : goal.series::acted_all-returns-in_err-v-clause-run
series::acted_all-returns-in_err-v-clause-run t c =
    let less : c.loop-item.item-index < length c.args.items.now = omega arith in
    all_ends (λ (vs : Views). views_list (views_of vs)) c.from_residual.result c.in_err-v.field-0.0 c.args.core.now.depth c.loop-item.core.depth c.args.scope.0 c.loop-item.item-index c.args.items.now c.item-item.result (views_list (views_of c.loop-item.views)) (state_of c.loop-item.core) (state_of c.acted.new.core) _
    c.from_residual.ensures.1 less c.item-item.is c.loop-item.invariant.kept.depth c.in_err-v.ensures.run c.loop-item.invariant.same

pub acting::acted_assign-assign-requires-clause-place : goal.acting::acted_assign-assign-requires-clause-place
acting::acted_assign-assign-requires-clause-place t c =
    place_more (length c.left.new.core.store) (length c.acted.new.core.store) c.acted.ensures.kept.grown c.in_ok-place.place c.in_ok-place.ensures.stands

pub acting::acted_binary-operator_value-requires-clause-left : goal.acting::acted_binary-operator_value-requires-clause-left
acting::acted_binary-operator_value-requires-clause-left t c =
    view_more (length c.acted.new.core.store) (length c.acted-2.new.core.store) c.acted-2.ensures.kept.grown (view_of c.in_ok-left.left) c.in_ok-left.ensures.stands

pub acting::acted_call-call-requires : goal.acting::acted_call-call-requires
acting::acted_call-call-requires t c = (
  grind arith,
  (
    c.acted_all.ensures.kept.sound,
    (
      target_more (length c.reached.new.core.store) (length c.acted_all.new.core.store) (length c.reached.new.core.scopes) (length c.acted_all.new.core.scopes) c.acted_all.ensures.kept.grown (sym c.acted_all.ensures.kept.count) c.in_ok-v.called c.in_ok-v.ensures.target,
      (
        view_more (length c.reached.new.core.store) (length c.acted_all.new.core.store) c.acted_all.ensures.kept.grown (view_of c.in_ok-v.v) c.in_ok-v.ensures.stands,
        c.in_ok-args.ensures.stands,
      ),
    ),
  ),
)

pub acting::acted_call-returns-in_err-args-clause-run : goal.acting::acted_call-returns-in_err-args-clause-run
acting::acted_call-returns-in_err-args-clause-run t c =
    call_ends c.from_residual-in_err-args.result c.in_err-args.field-0.0 c.args.core.now.depth c.reached.new.core.depth c.args.scope.0 (tree c.args.t.now) (trees_from (map tree c.args.args.now)) (state_of c.args.core.now) (state_of c.reached.new.core) (state_of c.acted_all.new.core) (view_of c.in_ok-v.v) c.in_ok-v.called
    c.from_residual-in_err-args.ensures.1 c.reached.ensures.kept.depth (sym c.if-is_nothing.ensures) c.in_ok-v.ensures.run c.in_err-args.ensures.run

pub acting::acted_filter-filter-requires-clause-view : goal.acting::acted_filter-filter-requires-clause-view
acting::acted_filter-filter-requires-clause-view t c =
    view_more (length c.acted.new.core.store) (length c.acted_all.new.core.store) c.acted_all.ensures.kept.grown (view_of c.in_ok-v.v) c.in_ok-v.ensures.stands

pub acting::acted_filter-returns-in_err-args-clause-run : goal.acting::acted_filter-returns-in_err-args-clause-run
acting::acted_filter-returns-in_err-args-clause-run t c =
    filter_ends c.from_residual-in_err-args.result c.in_err-args.field-0.0 c.args.core.now.depth c.acted.new.core.depth c.args.scope.0 (tree c.args.t.now) c.args.name.now (trees_from (map tree c.args.args.now)) (state_of c.args.core.now) (state_of c.acted.new.core) (state_of c.acted_all.new.core) (view_of c.in_ok-v.v)
    c.from_residual-in_err-args.ensures.1 c.acted.ensures.kept.depth c.in_ok-v.ensures.run c.in_err-args.ensures.run

pub acting::acted_item-item-requires-clause-value : goal.acting::acted_item-item-requires-clause-value
acting::acted_item-item-requires-clause-value t c =
    view_more (length c.acted.new.core.store) (length c.acted-2.new.core.store) c.acted-2.ensures.kept.grown (view_of c.in_ok-v.v) c.in_ok-v.ensures.stands

pub series::acted_pairs-loop-pair-preserved : goal.series::acted_pairs-loop-pair-preserved
series::acted_pairs-loop-pair-preserved t c =
    let less : c.loop-pair.pair-index < length c.args.pairs.now = omega arith in
    let low = pair_low c.args.pairs.now c.loop-pair.pair-index c.pair-item.result (pair_heights (pairs_from (map pair_tree c.args.pairs.now))) less c.pair-item.is c.loop-pair.invariant.low in
    record {
      low = low.1;
      kept = kept_on c.args.core.now c.loop-pair.core c.acted_pair.new.core c.loop-pair.invariant.kept c.acted_pair.ensures.kept;
      stands = fields_and (length c.loop-pair.core.store) (length c.acted_pair.new.core.store) (map field_of c.loop-pair.fields.entries) (map field_of c.put_field.new.fields.entries) c.in_ok-name.name (view_of c.in_ok-name.v) c.acted_pair.ensures.kept.grown c.in_ok-put_field.ensures c.loop-pair.invariant.stands c.in_ok-name.ensures.stands;
      same = pairs_put c.args.core.now.depth c.loop-pair.core.depth c.args.scope.0 c.loop-pair.pair-index c.args.pairs.now c.pair-item.result (map field_of c.loop-pair.fields.entries) (map field_of c.put_field.new.fields.entries) (c.in_ok-name.name, view_of c.in_ok-name.v) (state_of c.loop-pair.core) (state_of c.acted_pair.new.core) _ c.in_ok-put_field.ensures less c.pair-item.is c.loop-pair.invariant.kept.depth c.in_ok-name.ensures.run c.loop-pair.invariant.same;
    }

pub series::acted_pairs-returns-in_err-name-clause-run : goal.series::acted_pairs-returns-in_err-name-clause-run
series::acted_pairs-returns-in_err-name-clause-run t c =
    let less : c.loop-pair.pair-index < length c.args.pairs.now = omega arith in
    pairs_end _ c.from_residual.result c.in_err-name.field-0.0 c.args.core.now.depth c.loop-pair.core.depth c.args.scope.0 c.loop-pair.pair-index c.args.pairs.now c.pair-item.result (map field_of c.loop-pair.fields.entries) (state_of c.loop-pair.core) (state_of c.acted_pair.new.core) _
    c.from_residual.ensures.1 less c.pair-item.is c.loop-pair.invariant.kept.depth c.in_err-name.ensures.run c.loop-pair.invariant.same

pub emitting::broadcast_views-returns-clause-run : goal.emitting::broadcast_views-returns-clause-run
emitting::broadcast_views-returns-clause-run t c =
    event_acts c.broadcast_open-value.result c.args.core.now.depth c.open_event.new.core.depth (a_broadcast c.args.scope.0 c.args.name.now (views_list (views_of c.args.args))) (state_of c.args.core.now) (state_of c.open_event.new.core) (state_of c.broadcast_open-value.new.core) (state_of c.close_event.new.core)
    (omega arith) c.open_event.ensures.depth c.open_event.ensures.run c.close_event.ensures.run c.broadcast_open-value.ensures.run

pub emitting::emit_views-returns-clause-run : goal.emitting::emit_views-returns-clause-run
emitting::emit_views-returns-clause-run t c =
    event_acts c.emit_open-value.result c.args.core.now.depth c.open_event.new.core.depth (an_emit c.args.scope.0 c.args.name.now (views_list (views_of c.args.args))) (state_of c.args.core.now) (state_of c.open_event.new.core) (state_of c.emit_open-value.new.core) (state_of c.close_event.new.core)
    (omega arith) c.open_event.ensures.depth c.open_event.ensures.run c.close_event.ensures.run c.emit_open-value.ensures.run

pub visiting::hear-returns-clause-kept : goal.visiting::hear-returns-clause-kept
visiting::hear-returns-clause-kept t c =
    let w2 : c.take_turns-end.new.walk ≡ c.begin_walk-walk.result = c.take_turns-end.ensures.walk in
    let ended : Ends c.take_turns-end.new.core.listeners c.begin_walk-walk.result c.end_walk.new.core.listeners = rw (← w2) c.end_walk.ensures.ends in
    let shut : closed c.take_turns-end.new.core.listeners c.begin_walk-walk.result ≡ closed c.begin_walk-walk.new.core.listeners c.begin_walk-walk.result = subst (λ x. closed c.take_turns-end.new.core.listeners x ≡ closed c.begin_walk-walk.new.core.listeners c.begin_walk-walk.result) w2 c.take_turns-end.ensures.closed in
    let same : held c.end_walk.new.core ≡ held c.args.core.now = held_same c.args.core.now c.end_walk.new.core
    (closed_ended c.take_turns-end.new.core.listeners c.end_walk.new.core.listeners c.begin_walk-walk.result ended ∙ (shut ∙ closed_begun c.args.core.now.listeners c.begin_walk-walk.new.core.listeners c.args.scope.0 c.args.e.now.name c.begin_walk-walk.result c.begin_walk-walk.ensures.begins))
    (bare_ended c.args.core.now.listeners c.begin_walk-walk.new.core.listeners c.take_turns-end.new.core.listeners c.args.scope.0 c.args.e.now.name c.begin_walk-walk.result c.begin_walk-walk.ensures.begins c.end_walk.new.core.listeners c.take_turns-end.ensures.bare ended)
    (omega (arith, c.end_walk.ensures.open, c.take_turns-end.ensures.open, c.begin_walk-walk.ensures.open)) in
    kept_by c.args.core.now c.end_walk.new.core c.end_walk.ensures.sound same
    (c.end_walk.ensures.depth ∙ (c.take_turns-end.ensures.depth ∙ c.begin_walk-walk.ensures.depth))
    (ap length c.end_walk.ensures.scopes ∙ (c.take_turns-end.ensures.count ∙ ap length c.begin_walk-walk.ensures.scopes))
    (omega (arith, ap length c.end_walk.ensures.store, c.take_turns-end.ensures.grown, ap length c.begin_walk-walk.ensures.store))

pub visiting::hear-returns-clause-run : goal.visiting::hear-returns-clause-run
visiting::hear-returns-clause-run t c =
    ok_then c.take_turns-end.result c.take_turns-end.ensures.run
    (λ r. heard_run c.args.core.now.depth c.begin_walk-walk.new.core.depth (event_of c.args.e.now) c.args.scope.0 c.args.core.now.listeners c.begin_walk-walk.new.core.listeners c.args.e.now.name c.begin_walk-walk.result (state_of c.args.core.now) (state_of c.begin_walk-walk.new.core) (state_of c.take_turns-end.new.core) (state_of c.end_walk.new.core)
    c.begin_walk-walk.ensures.depth c.begin_walk-walk.ensures.begins refl c.begin_walk-walk.ensures.run r c.end_walk.ensures.run)

pub reaching::left-returns-in_err-index-in-Item-clause-run : goal.reaching::left-returns-in_err-index-in-Item-clause-run
reaching::left-returns-in_err-index-in-Item-clause-run t c =
    left_index_ends place_of c.from_residual-in_err-index-in-Item.result c.in_err-index-in-Item.field-0.0 c.args.core.now.depth c.made-in-Item.new.core.depth c.args.scope.0 (tree c.args.e.now) _ _ (state_of c.args.core.now) (state_of c.made-in-Item.new.core) (state_of c.acted.new.core) (view_of c.in_ok-v-in-Item.v)
    (item_is c.args.e.now c.in-Item.t c.in-Item.i c.deref-in-Item.result.now c.deref-in-Item-2.result.now c.in-Item.is c.deref-in-Item.ensures c.deref-in-Item-2.ensures) c.from_residual-in_err-index-in-Item.ensures.1 c.made-in-Item.ensures.kept.depth c.in_ok-v-in-Item.ensures.run c.in_err-index-in-Item.ensures.run

pub reaching::left-returns-in_err-name-in-Item-clause-run : goal.reaching::left-returns-in_err-name-in-Item-clause-run
reaching::left-returns-in_err-name-in-Item-clause-run t c =
    left_name_ends place_of c.from_residual-in_err-name-in-Item.result c.in_err-name-in-Item.field-0.0 c.args.core.now.depth c.made-in-Item.new.core.depth c.args.scope.0 (tree c.args.e.now) _ _ (state_of c.args.core.now) (state_of c.made-in-Item.new.core) (state_of c.acted.new.core) (view_of c.in_ok-v-in-Item.v) (view_of c.in_ok-index-in-Item.index)
    (item_is c.args.e.now c.in-Item.t c.in-Item.i c.deref-in-Item.result.now c.deref-in-Item-2.result.now c.in-Item.is c.deref-in-Item.ensures c.deref-in-Item-2.ensures) c.from_residual-in_err-name-in-Item.ensures.1 c.made-in-Item.ensures.kept.depth c.in_ok-v-in-Item.ensures.run c.in_ok-index-in-Item.ensures.run c.in_err-name-in-Item.ensures

pub reaching::left-returns-in_err-v-in-Item-clause-run : goal.reaching::left-returns-in_err-v-in-Item-clause-run
reaching::left-returns-in_err-v-in-Item-clause-run t c =
    left_item_ends place_of c.from_residual-in_err-v-in-Item.result c.in_err-v-in-Item.field-0.0 (does (64 - c.args.core.now.depth)) c.args.scope.0 (tree c.args.e.now) _ _ (state_of c.args.core.now) (state_of c.made-in-Item.new.core) (item_is c.args.e.now c.in-Item.t c.in-Item.i c.deref-in-Item.result.now c.in-Item.i.value c.in-Item.is c.deref-in-Item.ensures refl) c.from_residual-in_err-v-in-Item.ensures.1 c.in_err-v-in-Item.ensures.run

pub reaching::left-returns-in_err-v-in-Member-clause-run : goal.reaching::left-returns-in_err-v-in-Member-clause-run
reaching::left-returns-in_err-v-in-Member-clause-run t c =
    left_member_ends place_of c.from_residual-in_err-v-in-Member.result c.in_err-v-in-Member.field-0.0 (does (64 - c.args.core.now.depth)) c.args.scope.0 (tree c.args.e.now) _ _ (state_of c.args.core.now) (state_of c.made.new.core) (member_is c.args.e.now c.in-Member.t c.in-Member.n c.deref.result.now c.in-Member.is c.deref.ensures) c.from_residual-in_err-v-in-Member.ensures.1 c.in_err-v-in-Member.ensures.run

pub reaching::left-returns-in_ok-name-in-Item-clause-stands : goal.reaching::left-returns-in_ok-name-in-Item-clause-stands
reaching::left-returns-in_ok-name-in-Item-clause-stands t c =
    view_more (length c.made-in-Item.new.core.store) (length c.acted.new.core.store) c.acted.ensures.kept.grown (view_of c.in_ok-v-in-Item.v) c.in_ok-v-in-Item.ensures.stands

pub reaching::made-make_member-requires-in-Item-clause-target : goal.reaching::made-make_member-requires-in-Item-clause-target
reaching::made-make_member-requires-in-Item-clause-target t c =
    view_more (length c.made-in-Item.new.core.store) (length c.acted.new.core.store) c.acted.ensures.kept.grown (view_of c.in_ok-v-in-Item.v) c.in_ok-v-in-Item.ensures.stands

pub reaching::made-returns-in_default : goal.reaching::made-returns-in_default
reaching::made-returns-in_default t c = record {
  run = acts_as view_of c.acted-in_default.result (state_of c.acted-in_default.new.core) (acted (does (64 - c.args.core.now.depth)) c.args.scope.0 (tree c.args.e.now) (state_of c.args.core.now)) _ (made_other (does (64 - c.args.core.now.depth)) c.args.scope.0 (acted (does (64 - c.args.core.now.depth)) c.args.scope.0 (tree c.args.e.now)) (state_of c.args.core.now) c.args.e.now c.in_default.not-Name c.in_default.not-Member c.in_default.not-Item) c.acted-in_default.ensures.run;
  kept = c.acted-in_default.ensures.kept;
  stands = c.acted-in_default.ensures.stands;
}

pub reaching::made-returns-in_err-index-in-Item-clause-run : goal.reaching::made-returns-in_err-index-in-Item-clause-run
reaching::made-returns-in_err-index-in-Item-clause-run t c =
    made_index_ends c.from_residual-in_err-index-in-Item.result c.in_err-index-in-Item.field-0.0 c.args.core.now.depth c.made-in-Item.new.core.depth c.args.scope.0 (acted (does (64 - c.args.core.now.depth)) c.args.scope.0 (tree c.args.e.now)) (tree c.args.e.now) _ _ (state_of c.args.core.now) (state_of c.made-in-Item.new.core) (state_of c.acted.new.core) (view_of c.in_ok-v-in-Item.v)
    (item_is c.args.e.now c.in-Item.t c.in-Item.i c.deref-in-Item.result.now c.deref-in-Item-2.result.now c.in-Item.is c.deref-in-Item.ensures c.deref-in-Item-2.ensures) c.from_residual-in_err-index-in-Item.ensures.1 c.made-in-Item.ensures.kept.depth c.in_ok-v-in-Item.ensures.run c.in_err-index-in-Item.ensures.run

pub reaching::made-returns-in_err-name-in-Item-clause-run : goal.reaching::made-returns-in_err-name-in-Item-clause-run
reaching::made-returns-in_err-name-in-Item-clause-run t c =
    made_name_ends c.from_residual-in_err-name-in-Item.result c.in_err-name-in-Item.field-0.0 c.args.core.now.depth c.made-in-Item.new.core.depth c.args.scope.0 (acted (does (64 - c.args.core.now.depth)) c.args.scope.0 (tree c.args.e.now)) (tree c.args.e.now) _ _ (state_of c.args.core.now) (state_of c.made-in-Item.new.core) (state_of c.acted.new.core) (view_of c.in_ok-v-in-Item.v) (view_of c.in_ok-index-in-Item.index)
    (item_is c.args.e.now c.in-Item.t c.in-Item.i c.deref-in-Item.result.now c.deref-in-Item-2.result.now c.in-Item.is c.deref-in-Item.ensures c.deref-in-Item-2.ensures) c.from_residual-in_err-name-in-Item.ensures.1 c.made-in-Item.ensures.kept.depth c.in_ok-v-in-Item.ensures.run c.in_ok-index-in-Item.ensures.run c.in_err-name-in-Item.ensures

pub reaching::made-returns-in_err-v-in-Item-clause-run : goal.reaching::made-returns-in_err-v-in-Item-clause-run
reaching::made-returns-in_err-v-in-Item-clause-run t c =
    made_item_ends c.from_residual-in_err-v-in-Item.result c.in_err-v-in-Item.field-0.0 (does (64 - c.args.core.now.depth)) c.args.scope.0 (acted (does (64 - c.args.core.now.depth)) c.args.scope.0 (tree c.args.e.now)) (tree c.args.e.now) _ _ (state_of c.args.core.now) (state_of c.made-in-Item.new.core) (item_is c.args.e.now c.in-Item.t c.in-Item.i c.deref-in-Item.result.now c.in-Item.i.value c.in-Item.is c.deref-in-Item.ensures refl) c.from_residual-in_err-v-in-Item.ensures.1 c.in_err-v-in-Item.ensures.run

pub reaching::made-returns-in_err-v-in-Member-clause-run : goal.reaching::made-returns-in_err-v-in-Member-clause-run
reaching::made-returns-in_err-v-in-Member-clause-run t c =
    made_member_ends c.from_residual.result c.in_err-v-in-Member.field-0.0 (does (64 - c.args.core.now.depth)) c.args.scope.0 (acted (does (64 - c.args.core.now.depth)) c.args.scope.0 (tree c.args.e.now)) (tree c.args.e.now) _ _ (state_of c.args.core.now) (state_of c.made.new.core) (member_is c.args.e.now c.in-Member.t c.in-Member.n c.deref.result.now c.in-Member.is c.deref.ensures) c.from_residual.ensures.1 c.in_err-v-in-Member.ensures.run

pub reaching::made-returns-in_ok-name-in-Item-clause-run : goal.reaching::made-returns-in_ok-name-in-Item-clause-run
reaching::made-returns-in_ok-name-in-Item-clause-run t c =
    made_item_acts c.make_member-in-Item.result c.args.core.now.depth c.made-in-Item.new.core.depth c.args.scope.0 (acted (does (64 - c.args.core.now.depth)) c.args.scope.0 (tree c.args.e.now)) (tree c.args.e.now) _ _ c.in_ok-name-in-Item.name (state_of c.args.core.now) (state_of c.made-in-Item.new.core) (state_of c.acted.new.core) (state_of c.make_member-in-Item.new.core) (view_of c.in_ok-v-in-Item.v) (view_of c.in_ok-index-in-Item.index)
    (item_is c.args.e.now c.in-Item.t c.in-Item.i c.deref-in-Item.result.now c.deref-in-Item-2.result.now c.in-Item.is c.deref-in-Item.ensures c.deref-in-Item-2.ensures) c.made-in-Item.ensures.kept.depth c.in_ok-v-in-Item.ensures.run c.in_ok-index-in-Item.ensures.run c.in_ok-name-in-Item.ensures c.make_member-in-Item.ensures.run

pub reaching::made-returns-in_ok-v-in-Member-clause-run : goal.reaching::made-returns-in_ok-v-in-Member-clause-run
reaching::made-returns-in_ok-v-in-Member-clause-run t c =
    made_member_acts c.make_member.result (does (64 - c.args.core.now.depth)) c.args.scope.0 (acted (does (64 - c.args.core.now.depth)) c.args.scope.0 (tree c.args.e.now)) (tree c.args.e.now) _ _ (state_of c.args.core.now) (state_of c.made.new.core) (state_of c.make_member.new.core) (view_of c.in_ok-v-in-Member.v) (member_is c.args.e.now c.in-Member.t c.in-Member.n c.deref.result.now c.in-Member.is c.deref.ensures) c.in_ok-v-in-Member.ensures.run c.make_member.ensures.run

pub reaching::reached-item_called-requires : goal.reaching::reached-item_called-requires
reaching::reached-item_called-requires t c =
    view_more (length c.acted-in-Item.new.core.store) (length c.acted-in-Item-2.new.core.store) c.acted-in-Item-2.ensures.kept.grown (view_of c.in_ok-v-in-Item.v) c.in_ok-v-in-Item.ensures.stands

pub reaching::reached-returns-in_ok-called-in-Item-clause-stands : goal.reaching::reached-returns-in_ok-called-in-Item-clause-stands
reaching::reached-returns-in_ok-called-in-Item-clause-stands t c =
    view_more (length c.acted-in-Item.new.core.store) (length c.acted-in-Item-2.new.core.store) c.acted-in-Item-2.ensures.kept.grown (view_of c.in_ok-v-in-Item.v) c.in_ok-v-in-Item.ensures.stands

pub reaching::reached-returns-in_ok-called-in-Member-clause-target : goal.reaching::reached-returns-in_ok-called-in-Member-clause-target
reaching::reached-returns-in_ok-called-in-Member-clause-target t c =
    rw c.in_ok-called-in-Member.ensures (target_stands (length c.acted.new.core.store) c.acted.new.core.store c.acted.new.core.scopes (view_of c.in_ok-v-in-Member.v) _ c.in_ok-v-in-Member.ensures.stands)

pub reaching::reached-returns-in_ok-v-in_default : goal.reaching::reached-returns-in_ok-v-in_default
reaching::reached-returns-in_ok-v-in_default t c = record {
  run = reached_other (does (64 - c.args.core.now.depth)) c.args.scope.0 (acted (does (64 - c.args.core.now.depth)) c.args.scope.0 (tree c.args.e.now)) (state_of c.args.core.now) c.args.e.now c.in_default.not-Name c.in_default.not-Member c.in_default.not-Item ∙ whole_called (acted (does (64 - c.args.core.now.depth)) c.args.scope.0 (tree c.args.e.now)) (state_of c.args.core.now) (state_of c.acted-in_default.new.core) (view_of c.in_ok-v-in_default.v) c.value_called-called.result c.in_ok-v-in_default.ensures.run c.value_called-called.ensures;
  kept = c.acted-in_default.ensures.kept;
  stands = c.in_ok-v-in_default.ensures.stands;
  target = rw c.value_called-called.ensures (value_target_stands (length c.acted-in_default.new.core.store) (length c.acted-in_default.new.core.scopes) (view_of c.in_ok-v-in_default.v));
}

pub emitting::rise-loop-i-preserved : goal.emitting::rise-loop-i-preserved
emitting::rise-loop-i-preserved t c = record {
  kept = kept_on c.args.core.now c.loop-i.core c.visit.new.core c.loop-i.invariant.kept c.visit.ensures.kept;
  inside = inside_kept c.loop-i.core c.visit.new.core c.visit.ensures.kept.held c.visit.ensures.kept.depth c.loop-i.invariant.inside;
  within = c.parent_of-next.ensures.within;
  object = omega (arith, c.visit.ensures.kept.grown, c.loop-i.invariant.object);
  args = view_more (length c.loop-i.core.store) (length c.visit.new.core.store) c.visit.ensures.kept.grown (view_of c.args.e.now.args) c.loop-i.invariant.args;
  same = rise_step c.args.core.now.depth c.loop-i.core.depth (c.count-i-end.result - c.loop-i._i) (c.count-i-end.result - (c.loop-i._i + 1)) c.in-Some.at.0 (event_of c.args.e.now) (option_map (λ (s : ScopeId). s.0) c.loop-i.next) (option_map (λ (s : ScopeId). s.0) c.parent_of-next.result) (state_of c.loop-i.core) (state_of c.visit.new.core) _
      (omega arith) (ap (option_map (λ (s : ScopeId). s.0)) c.in-Some.is) c.loop-i.invariant.kept.depth c.in_ok-visit-in-Some.ensures.run (sym c.if-is_stopped.ensures) c.parent_of-next.ensures.parent c.loop-i.invariant.same;
}

pub emitting::rise-returns-then-is_stopped-clause-run : goal.emitting::rise-returns-then-is_stopped-clause-run
emitting::rise-returns-then-is_stopped-clause-run t c =
    (rise_stop c.args.core.now.depth c.loop-i.core.depth (c.count-i-end.result - c.loop-i._i) (c.count-i-end.result - (c.loop-i._i + 1)) c.in-Some.at.0 (event_of c.args.e.now) (option_map (λ (s : ScopeId). s.0) c.loop-i.next) (state_of c.loop-i.core) (state_of c.visit.new.core) _
    (omega arith) (ap (option_map (λ (s : ScopeId). s.0)) c.in-Some.is) c.loop-i.invariant.kept.depth c.in_ok-visit-in-Some.ensures.run (sym c.if-is_stopped.ensures) c.loop-i.invariant.same)
    ∙ ap (λ (k : ℕ). rises k (does (64 - c.args.core.now.depth)) (event_of c.args.e.now) (Some c.args.scope.0) (state_of c.args.core.now)) c.count-i-end.ensures

pub calling::run_body-returns-clause-run : goal.calling::run_body-returns-clause-run
calling::run_body-returns-clause-run t c =
    body_acts c.programmed-value.result c.args.core.now.depth c.enter_body-outer.new.core.depth c.args.scope.0 c.args.locals (program c.args.p.now) (state_of c.args.core.now) (state_of c.enter_body-outer.new.core) (state_of c.programmed-value.new.core) (state_of c.leave_body.new.core)
    (omega arith) c.enter_body-outer.ensures.depth (entered_less c.args.core.now.bodies (omega arith)) c.enter_body-outer.ensures.run (c.leave_body.ensures.run ∙ ap (λ ls. with_locals ls (state_of c.programmed-value.new.core)) c.enter_body-outer.ensures.outer)
    (subst (λ (q : Trees). Acts view_of c.programmed-value.result (state_of c.programmed-value.new.core) (programmed (does (64 - c.enter_body-outer.new.core.depth)) c.args.scope.0 q (state_of c.enter_body-outer.new.core))) c.statements.ensures.seen c.programmed-value.ensures.run)

pub emitting::sweep-loop-i-init : goal.emitting::sweep-loop-i-init
emitting::sweep-loop-i-init t c = record {
  kept = kept_same c.visit.new.core c.visit.ensures.kept.sound;
  inside = inside_kept c.args.core.now c.visit.new.core c.visit.ensures.kept.held c.visit.ensures.kept.depth c.requires.inside;
  within = rw c.visit.ensures.kept.count c.requires.scope;
  top = rw c.visit.ensures.kept.count c.requires.scope;
  object = omega (arith, c.visit.ensures.kept.grown, c.requires.object);
  args = view_more (length c.args.core.now.store) (length c.visit.new.core.store) c.visit.ensures.kept.grown (view_of c.args.e.now.args) c.requires.args;
  same = (let n : c.count-count.result - 0 ≡ c.count-count.result = omega arith in ap (λ k. sweeps k (does (64 - c.visit.new.core.depth)) (event_of c.args.e.now) c.args.scope.0 c.args.scope.0 (state_of c.visit.new.core)) n);
}

pub emitting::sweep-loop-i-preserved : goal.emitting::sweep-loop-i-preserved
emitting::sweep-loop-i-preserved t c = record {
  kept = kept_on c.visit.new.core c.loop-i.core c.visit-in-Some.new.core c.loop-i.invariant.kept c.visit-in-Some.ensures.kept;
  inside = inside_kept c.loop-i.core c.visit-in-Some.new.core c.visit-in-Some.ensures.kept.held c.visit-in-Some.ensures.kept.depth c.loop-i.invariant.inside;
  within = rw c.visit-in-Some.ensures.kept.count c.in-Some.ensures.within;
  top = rw c.visit-in-Some.ensures.kept.count c.loop-i.invariant.top;
  object = omega (arith, c.visit-in-Some.ensures.kept.grown, c.loop-i.invariant.object);
  args = view_more (length c.loop-i.core.store) (length c.visit-in-Some.new.core.store) c.visit-in-Some.ensures.kept.grown (view_of c.args.e.now.args) c.loop-i.invariant.args;
  same = sweep_step c.visit.new.core.depth c.loop-i.core.depth (c.count-count.result - c.loop-i._i) (c.count-count.result - (c.loop-i._i + 1)) c.args.scope.0 c.loop-i.last.0 c.in-Some.at.0 (event_of c.args.e.now) (state_of c.loop-i.core) (state_of c.visit-in-Some.new.core) _
      (omega arith) (sym c.in-Some.ensures.next) c.loop-i.invariant.kept.depth c.in_ok-visit-in-Some.ensures.run c.loop-i.invariant.same;
}

pub visiting::take_turns-loop-id-preserved : goal.visiting::take_turns-loop-id-preserved
visiting::take_turns-loop-id-preserved t c = record {
  sound = c.take_turn.ensures.kept.sound;
  depth = c.take_turn.ensures.kept.depth ∙ (c.next_turn.ensures.depth ∙ c.loop-id.invariant.depth);
  count = c.take_turn.ensures.kept.count ∙ (ap length c.next_turn.ensures.scopes ∙ c.loop-id.invariant.count);
  grown = omega (arith, c.take_turn.ensures.kept.grown, ap length c.next_turn.ensures.store, c.loop-id.invariant.grown);
  object = omega (arith, c.take_turn.ensures.kept.grown, ap length c.next_turn.ensures.store, c.loop-id.invariant.object);
  args = view_more (length c.loop-id.core.store) (length c.take_turn.new.core.store) (omega (arith, c.take_turn.ensures.kept.grown, ap length c.next_turn.ensures.store)) (view_of c.args.e.now.args) c.loop-id.invariant.args;
  walk = c.next_turn.ensures.walk ∙ c.loop-id.invariant.walk;
  bare = bare_kept c.next_turn.new.core c.take_turn.new.core c.take_turn.ensures.kept.held ∙ (c.next_turn.ensures.bare ∙ c.loop-id.invariant.bare);
  open_same = open_kept c.next_turn.new.core c.take_turn.new.core c.take_turn.ensures.kept.held ∙ (c.next_turn.ensures.open ∙ c.loop-id.invariant.open_same);
  closed = rw c.next_turn.ensures.walk (closed_same c.next_turn.new.core.listeners c.take_turn.new.core.listeners c.loop-id.walk (walks_kept c.next_turn.new.core c.take_turn.new.core c.take_turn.ensures.kept.held) ∙ (closed_gone c.loop-id.core.listeners c.next_turn.new.core.listeners c.loop-id.walk _ c.next_turn.ensures.goes ∙ c.loop-id.invariant.closed));
  still = open_same c.next_turn.new.core.listeners c.take_turn.new.core.listeners c.next_turn.new.walk (walks_kept c.next_turn.new.core c.take_turn.new.core c.take_turn.ensures.kept.held) (bare_kept c.next_turn.new.core c.take_turn.new.core c.take_turn.ensures.kept.held) c.next_turn.ensures.still;
  same = rw c.next_turn.ensures.walk (turn_kept c.args.core.now.depth c.next_turn.new.core.depth (event_of c.args.e.now) c.args.scope.0 c.loop-id.core.listeners c.next_turn.new.core.listeners c.take_turn.new.core.listeners c.loop-id.walk c.in-Some.id (state_of c.loop-id.core) (state_of c.next_turn.new.core) (state_of c.take_turn.new.core) _
      c.loop-id.invariant.same (c.next_turn.ensures.depth ∙ c.loop-id.invariant.depth) c.next_turn.ensures.run (walks_kept c.next_turn.new.core c.take_turn.new.core c.take_turn.ensures.kept.held) c.loop-id.invariant.still c.in-Some.ensures.goes refl c.in_ok-take_turn.ensures.run);
}

pub visiting::take_turns-loop-id-smaller : goal.visiting::take_turns-loop-id-smaller
visiting::take_turns-loop-id-smaller t c =
    let same : c.next_turn.new.walk ≡ c.loop-id.walk = c.next_turn.ensures.walk in
    rw same (ahead_falls c.loop-id.core.listeners c.next_turn.new.core.listeners c.take_turn.new.core.listeners c.loop-id.walk c.in-Some.id c.loop-id.invariant.still c.in-Some.ensures.goes (walks_kept c.next_turn.new.core c.take_turn.new.core c.take_turn.ensures.kept.held))

pub visiting::take_turns-returns-clause-closed : goal.visiting::take_turns-returns-clause-closed
visiting::take_turns-returns-clause-closed t c =
    rw c.next_turn.ensures.walk (closed_gone c.loop-id.core.listeners c.next_turn.new.core.listeners c.loop-id.walk _ c.next_turn.ensures.goes ∙ c.loop-id.invariant.closed)

pub visiting::take_turns-returns-clause-run : goal.visiting::take_turns-returns-clause-run
visiting::take_turns-returns-clause-run t c =
    c.next_turn.ensures.run ∙
    (sym (walk_end (does (64 - c.args.core.now.depth)) (event_of c.args.e.now) c.args.scope.0 c.loop-id.core.listeners c.next_turn.new.core.listeners c.loop-id.walk (state_of c.loop-id.core) c.loop-id.invariant.still c.in_default.ensures.goes refl) ∙ c.loop-id.invariant.same)

pub visiting::take_turns-returns-in_err-take_turn-clause-closed : goal.visiting::take_turns-returns-in_err-take_turn-clause-closed
visiting::take_turns-returns-in_err-take_turn-clause-closed t c =
    rw c.next_turn.ensures.walk (closed_same c.next_turn.new.core.listeners c.take_turn.new.core.listeners c.loop-id.walk (walks_kept c.next_turn.new.core c.take_turn.new.core c.take_turn.ensures.kept.held) ∙ (closed_gone c.loop-id.core.listeners c.next_turn.new.core.listeners c.loop-id.walk _ c.next_turn.ensures.goes ∙ c.loop-id.invariant.closed))

pub visiting::take_turns-returns-in_err-take_turn-clause-still : goal.visiting::take_turns-returns-in_err-take_turn-clause-still
visiting::take_turns-returns-in_err-take_turn-clause-still t c =
    open_same c.next_turn.new.core.listeners c.take_turn.new.core.listeners c.next_turn.new.walk (walks_kept c.next_turn.new.core c.take_turn.new.core c.take_turn.ensures.kept.held) (bare_kept c.next_turn.new.core c.take_turn.new.core c.take_turn.ensures.kept.held) c.next_turn.ensures.still

pub visiting::visit-hear-requires : goal.visiting::visit-hear-requires
visiting::visit-hear-requires t c = (
  grind arith,
  (
    c.show_current.ensures.sound,
    (
      rw c.show_current.ensures.count c.requires.scope,
      (
        inside_kept c.args.core.now c.show_current.new.core c.show_current.ensures.held c.show_current.ensures.depth c.requires.inside,
        (
          omega (arith, c.show_current.ensures.grown, c.requires.object),
          view_more (length c.args.core.now.store) (length c.show_current.new.core.store) c.show_current.ensures.grown (view_of c.args.e.now.args) c.requires.args,
        ),
      ),
    ),
  ),
)

-- what each return keeps, and what calls of the cycle ask
pub acting::acted_item-returns-in_err-index-clause-kept : goal.acting::acted_item-returns-in_err-index-clause-kept
acting::acted_item-returns-in_err-index-clause-kept t c = kept_on c.args.core.now c.acted.new.core c.acted-2.new.core c.acted.ensures.kept c.acted-2.ensures.kept

pub acting::acted_item-returns-clause-kept : goal.acting::acted_item-returns-clause-kept
acting::acted_item-returns-clause-kept t c = kept_on c.args.core.now c.acted.new.core c.acted-2.new.core c.acted.ensures.kept c.acted-2.ensures.kept

pub acting::acted_call-returns-in_err-args-clause-kept : goal.acting::acted_call-returns-in_err-args-clause-kept
acting::acted_call-returns-in_err-args-clause-kept t c = kept_on c.args.core.now c.reached.new.core c.acted_all.new.core c.reached.ensures.kept c.acted_all.ensures.kept

pub acting::acted_call-returns-clause-kept : goal.acting::acted_call-returns-clause-kept
acting::acted_call-returns-clause-kept t c = kept_on c.args.core.now c.acted_all.new.core c.call.new.core (kept_on c.args.core.now c.reached.new.core c.acted_all.new.core c.reached.ensures.kept c.acted_all.ensures.kept) c.call.ensures.kept

pub acting::acted_list-returns-clause-kept : goal.acting::acted_list-returns-clause-kept
acting::acted_list-returns-clause-kept t c = kept_on c.args.core.now c.acted_all.new.core c.keep.new.core c.acted_all.ensures.kept (kept_by c.acted_all.new.core c.keep.new.core c.keep.ensures.sound c.keep.ensures.held c.keep.ensures.depth c.keep.ensures.count c.keep.ensures.grown)

pub acting::acted_record-returns-clause-kept : goal.acting::acted_record-returns-clause-kept
acting::acted_record-returns-clause-kept t c = kept_on c.args.core.now c.acted_pairs.new.core c.keep.new.core c.acted_pairs.ensures.kept (kept_by c.acted_pairs.new.core c.keep.new.core c.keep.ensures.sound c.keep.ensures.held c.keep.ensures.depth c.keep.ensures.count c.keep.ensures.grown)

pub acting::acted_binary-returns-in_err-right-clause-kept : goal.acting::acted_binary-returns-in_err-right-clause-kept
acting::acted_binary-returns-in_err-right-clause-kept t c = kept_on c.args.core.now c.acted.new.core c.acted-2.new.core c.acted.ensures.kept c.acted-2.ensures.kept

pub acting::acted_binary-returns-clause-kept : goal.acting::acted_binary-returns-clause-kept
acting::acted_binary-returns-clause-kept t c = kept_on c.args.core.now c.acted.new.core c.acted-2.new.core c.acted.ensures.kept c.acted-2.ensures.kept

pub acting::acted_both-returns-then-truthy-clause-kept : goal.acting::acted_both-returns-then-truthy-clause-kept
acting::acted_both-returns-then-truthy-clause-kept t c = kept_on c.args.core.now c.acted.new.core c.acted-then-truthy.new.core c.acted.ensures.kept c.acted-then-truthy.ensures.kept

pub acting::acted_either-returns-else-truthy-clause-kept : goal.acting::acted_either-returns-else-truthy-clause-kept
acting::acted_either-returns-else-truthy-clause-kept t c = kept_on c.args.core.now c.acted.new.core c.acted-else-truthy.new.core c.acted.ensures.kept c.acted-else-truthy.ensures.kept

pub acting::acted_choice-returns-then-truthy-clause-kept : goal.acting::acted_choice-returns-then-truthy-clause-kept
acting::acted_choice-returns-then-truthy-clause-kept t c = kept_on c.args.core.now c.acted.new.core c.acted-then-truthy.new.core c.acted.ensures.kept c.acted-then-truthy.ensures.kept

pub acting::acted_choice-returns-clause-kept : goal.acting::acted_choice-returns-clause-kept
acting::acted_choice-returns-clause-kept t c = kept_on c.args.core.now c.acted.new.core c.acted-else-truthy.new.core c.acted.ensures.kept c.acted-else-truthy.ensures.kept

pub acting::acted_assign-returns-in_err-v-clause-kept : goal.acting::acted_assign-returns-in_err-v-clause-kept
acting::acted_assign-returns-in_err-v-clause-kept t c = kept_on c.args.core.now c.left.new.core c.acted.new.core c.left.ensures.kept c.acted.ensures.kept

pub acting::acted_assign-returns-clause-kept : goal.acting::acted_assign-returns-clause-kept
acting::acted_assign-returns-clause-kept t c = kept_on c.args.core.now c.acted.new.core c.assign.new.core (kept_on c.args.core.now c.left.new.core c.acted.new.core c.left.ensures.kept c.acted.ensures.kept) (kept_by c.acted.new.core c.assign.new.core c.assign.ensures.sound c.assign.ensures.held c.assign.ensures.depth c.assign.ensures.count c.assign.ensures.grown)

pub acting::acted_filter-returns-in_err-args-clause-kept : goal.acting::acted_filter-returns-in_err-args-clause-kept
acting::acted_filter-returns-in_err-args-clause-kept t c = kept_on c.args.core.now c.acted.new.core c.acted_all.new.core c.acted.ensures.kept c.acted_all.ensures.kept

pub acting::acted_filter-returns-clause-kept : goal.acting::acted_filter-returns-clause-kept
acting::acted_filter-returns-clause-kept t c = kept_on c.args.core.now c.acted_all.new.core c.filter.new.core (kept_on c.args.core.now c.acted.new.core c.acted_all.new.core c.acted.ensures.kept c.acted_all.ensures.kept) (kept_by c.acted_all.new.core c.filter.new.core c.filter.ensures.sound c.filter.ensures.held c.filter.ensures.depth c.filter.ensures.count c.filter.ensures.grown)

pub acting::acted-returns-in-Number-clause-kept : goal.acting::acted-returns-in-Number-clause-kept
acting::acted-returns-in-Number-clause-kept t c = kept_same c.args.core.now c.requires.sound

pub acting::acted-returns-in-Text-clause-kept : goal.acting::acted-returns-in-Text-clause-kept
acting::acted-returns-in-Text-clause-kept t c = kept_same c.args.core.now c.requires.sound

pub acting::acted-returns-in-Name-clause-kept : goal.acting::acted-returns-in-Name-clause-kept
acting::acted-returns-in-Name-clause-kept t c = kept_same c.args.core.now c.requires.sound

pub acting::acted-returns-in-This-clause-kept : goal.acting::acted-returns-in-This-clause-kept
acting::acted-returns-in-This-clause-kept t c = kept_same c.args.core.now c.requires.sound

pub acting::acted-returns-in-Constant-clause-kept : goal.acting::acted-returns-in-Constant-clause-kept
acting::acted-returns-in-Constant-clause-kept t c = kept_same c.args.core.now c.requires.sound

pub series::acted_all-returns-in_err-v-clause-kept : goal.series::acted_all-returns-in_err-v-clause-kept
series::acted_all-returns-in_err-v-clause-kept t c = kept_on c.args.core.now c.loop-item.core c.acted.new.core c.loop-item.invariant.kept c.acted.ensures.kept

pub series::acted_all-returns-in_err-push-clause-kept : goal.series::acted_all-returns-in_err-push-clause-kept
series::acted_all-returns-in_err-push-clause-kept t c = kept_on c.args.core.now c.loop-item.core c.acted.new.core c.loop-item.invariant.kept c.acted.ensures.kept

pub series::acted_pairs-returns-in_err-name-clause-kept : goal.series::acted_pairs-returns-in_err-name-clause-kept
series::acted_pairs-returns-in_err-name-clause-kept t c = kept_on c.args.core.now c.loop-pair.core c.acted_pair.new.core c.loop-pair.invariant.kept c.acted_pair.ensures.kept

pub series::acted_pairs-returns-in_err-put_field-clause-kept : goal.series::acted_pairs-returns-in_err-put_field-clause-kept
series::acted_pairs-returns-in_err-put_field-clause-kept t c = kept_on c.args.core.now c.loop-pair.core c.acted_pair.new.core c.loop-pair.invariant.kept c.acted_pair.ensures.kept

pub series::programmed-returns-in_err-value-clause-kept : goal.series::programmed-returns-in_err-value-clause-kept
series::programmed-returns-in_err-value-clause-kept t c = kept_on c.args.core.now c.loop-item.core c.acted.new.core c.loop-item.invariant.kept c.acted.ensures.kept

pub series::acted_pair-returns-in_err-v-in-Computed-clause-kept : goal.series::acted_pair-returns-in_err-v-in-Computed-clause-kept
series::acted_pair-returns-in_err-v-in-Computed-clause-kept t c = kept_on c.args.core.now c.acted-in-Computed.new.core c.acted-in-Computed-2.new.core c.acted-in-Computed.ensures.kept c.acted-in-Computed-2.ensures.kept

pub series::acted_pair-returns-in_ok-v-in-Computed-clause-kept : goal.series::acted_pair-returns-in_ok-v-in-Computed-clause-kept
series::acted_pair-returns-in_ok-v-in-Computed-clause-kept t c = kept_on c.args.core.now c.acted-in-Computed.new.core c.acted-in-Computed-2.new.core c.acted-in-Computed.ensures.kept c.acted-in-Computed-2.ensures.kept

pub reaching::reached-returns-in_err-index-in-Item-clause-kept : goal.reaching::reached-returns-in_err-index-in-Item-clause-kept
reaching::reached-returns-in_err-index-in-Item-clause-kept t c = kept_on c.args.core.now c.acted-in-Item.new.core c.acted-in-Item-2.new.core c.acted-in-Item.ensures.kept c.acted-in-Item-2.ensures.kept

pub reaching::reached-returns-in_err-name-in-Item-clause-kept : goal.reaching::reached-returns-in_err-name-in-Item-clause-kept
reaching::reached-returns-in_err-name-in-Item-clause-kept t c = kept_on c.args.core.now c.acted-in-Item.new.core c.acted-in-Item-2.new.core c.acted-in-Item.ensures.kept c.acted-in-Item-2.ensures.kept

pub reaching::reached-returns-in_err-called-in-Item-clause-kept : goal.reaching::reached-returns-in_err-called-in-Item-clause-kept
reaching::reached-returns-in_err-called-in-Item-clause-kept t c = kept_on c.args.core.now c.acted-in-Item.new.core c.acted-in-Item-2.new.core c.acted-in-Item.ensures.kept c.acted-in-Item-2.ensures.kept

pub reaching::reached-returns-in_ok-called-in-Item-clause-kept : goal.reaching::reached-returns-in_ok-called-in-Item-clause-kept
reaching::reached-returns-in_ok-called-in-Item-clause-kept t c = kept_on c.args.core.now c.acted-in-Item.new.core c.acted-in-Item-2.new.core c.acted-in-Item.ensures.kept c.acted-in-Item-2.ensures.kept

pub reaching::reached-returns-in_err-name_called-in-Name-clause-kept : goal.reaching::reached-returns-in_err-name_called-in-Name-clause-kept
reaching::reached-returns-in_err-name_called-in-Name-clause-kept t c = kept_same c.args.core.now c.requires.sound

pub reaching::reached-returns-in_ok-name_called-in-Name-clause-kept : goal.reaching::reached-returns-in_ok-name_called-in-Name-clause-kept
reaching::reached-returns-in_ok-name_called-in-Name-clause-kept t c = kept_same c.args.core.now c.requires.sound

pub reaching::left-returns-in_err-copied-in-Name-clause-kept : goal.reaching::left-returns-in_err-copied-in-Name-clause-kept
reaching::left-returns-in_err-copied-in-Name-clause-kept t c = kept_same c.args.core.now c.requires.sound

pub reaching::left-returns-in_ok-copied-in-Name-clause-kept : goal.reaching::left-returns-in_ok-copied-in-Name-clause-kept
reaching::left-returns-in_ok-copied-in-Name-clause-kept t c = kept_same c.args.core.now c.requires.sound

pub reaching::left-returns-in_err-index-in-Item-clause-kept : goal.reaching::left-returns-in_err-index-in-Item-clause-kept
reaching::left-returns-in_err-index-in-Item-clause-kept t c = kept_on c.args.core.now c.made-in-Item.new.core c.acted.new.core c.made-in-Item.ensures.kept c.acted.ensures.kept

pub reaching::left-returns-in_err-name-in-Item-clause-kept : goal.reaching::left-returns-in_err-name-in-Item-clause-kept
reaching::left-returns-in_err-name-in-Item-clause-kept t c = kept_on c.args.core.now c.made-in-Item.new.core c.acted.new.core c.made-in-Item.ensures.kept c.acted.ensures.kept

pub reaching::left-returns-in_ok-name-in-Item-clause-kept : goal.reaching::left-returns-in_ok-name-in-Item-clause-kept
reaching::left-returns-in_ok-name-in-Item-clause-kept t c = kept_on c.args.core.now c.made-in-Item.new.core c.acted.new.core c.made-in-Item.ensures.kept c.acted.ensures.kept

pub reaching::left-returns-in_default-clause-kept : goal.reaching::left-returns-in_default-clause-kept
reaching::left-returns-in_default-clause-kept t c = kept_same c.args.core.now c.requires.sound

pub reaching::made-returns-in-Name-clause-kept : goal.reaching::made-returns-in-Name-clause-kept
reaching::made-returns-in-Name-clause-kept t c = kept_by c.args.core.now c.make_name.new.core c.make_name.ensures.sound c.make_name.ensures.held c.make_name.ensures.depth c.make_name.ensures.count c.make_name.ensures.grown

pub reaching::made-returns-in_ok-v-in-Member-clause-kept : goal.reaching::made-returns-in_ok-v-in-Member-clause-kept
reaching::made-returns-in_ok-v-in-Member-clause-kept t c = kept_on c.args.core.now c.made.new.core c.make_member.new.core c.made.ensures.kept (kept_by c.made.new.core c.make_member.new.core c.make_member.ensures.sound c.make_member.ensures.held c.make_member.ensures.depth c.make_member.ensures.count c.make_member.ensures.grown)

pub reaching::made-returns-in_err-index-in-Item-clause-kept : goal.reaching::made-returns-in_err-index-in-Item-clause-kept
reaching::made-returns-in_err-index-in-Item-clause-kept t c = kept_on c.args.core.now c.made-in-Item.new.core c.acted.new.core c.made-in-Item.ensures.kept c.acted.ensures.kept

pub reaching::made-returns-in_err-name-in-Item-clause-kept : goal.reaching::made-returns-in_err-name-in-Item-clause-kept
reaching::made-returns-in_err-name-in-Item-clause-kept t c = kept_on c.args.core.now c.made-in-Item.new.core c.acted.new.core c.made-in-Item.ensures.kept c.acted.ensures.kept

pub reaching::made-returns-in_ok-name-in-Item-clause-kept : goal.reaching::made-returns-in_ok-name-in-Item-clause-kept
reaching::made-returns-in_ok-name-in-Item-clause-kept t c = kept_on c.args.core.now c.acted.new.core c.make_member-in-Item.new.core (kept_on c.args.core.now c.made-in-Item.new.core c.acted.new.core c.made-in-Item.ensures.kept c.acted.ensures.kept) (kept_by c.acted.new.core c.make_member-in-Item.new.core c.make_member-in-Item.ensures.sound c.make_member-in-Item.ensures.held c.make_member-in-Item.ensures.depth c.make_member-in-Item.ensures.count c.make_member-in-Item.ensures.grown)

pub calling::call-returns-in-Nothing-clause-kept : goal.calling::call-returns-in-Nothing-clause-kept
calling::call-returns-in-Nothing-clause-kept t c = kept_same c.args.core.now c.requires.sound

pub calling::call-returns-in-Other-clause-kept : goal.calling::call-returns-in-Other-clause-kept
calling::call-returns-in-Other-clause-kept t c = kept_same c.args.core.now c.requires.sound

pub calling::call-returns-in-Pure-clause-kept : goal.calling::call-returns-in-Pure-clause-kept
calling::call-returns-in-Pure-clause-kept t c = kept_by c.args.core.now c.call_method.new.core c.call_method.ensures.sound c.call_method.ensures.held c.call_method.ensures.depth c.call_method.ensures.count c.call_method.ensures.grown

pub calling::call-returns-in-OfArray-clause-kept : goal.calling::call-returns-in-OfArray-clause-kept
calling::call-returns-in-OfArray-clause-kept t c = kept_by c.args.core.now c.change_array.new.core c.change_array.ensures.sound c.change_array.ensures.held c.change_array.ensures.depth c.change_array.ensures.count c.change_array.ensures.grown

pub calling::call-returns-in-OfEvent-clause-kept : goal.calling::call-returns-in-OfEvent-clause-kept
calling::call-returns-in-OfEvent-clause-kept t c = kept_by c.args.core.now c.call_of_event.new.core c.call_of_event.ensures.sound c.call_of_event.ensures.held c.call_of_event.ensures.depth c.call_of_event.ensures.count c.call_of_event.ensures.grown

pub calling::call_function-returns-in_err-find_callee-clause-kept : goal.calling::call_function-returns-in_err-find_callee-clause-kept
calling::call_function-returns-in_err-find_callee-clause-kept t c = kept_same c.args.core.now c.requires.sound

pub calling::call_function-returns-in-None-clause-kept : goal.calling::call_function-returns-in-None-clause-kept
calling::call_function-returns-in-None-clause-kept t c = kept_same c.args.core.now c.requires.sound

pub calling::call_function-returns-in-Taker-clause-kept : goal.calling::call_function-returns-in-Taker-clause-kept
calling::call_function-returns-in-Taker-clause-kept t c = kept_by c.args.core.now c.unlisten.new.core c.unlisten.ensures.sound c.unlisten.ensures.held c.unlisten.ensures.depth c.unlisten.ensures.count c.unlisten.ensures.grown

pub calling::call_function-returns-in-Unwatcher-clause-kept : goal.calling::call_function-returns-in-Unwatcher-clause-kept
calling::call_function-returns-in-Unwatcher-clause-kept t c = kept_by c.args.core.now c.unwatch.new.core c.unwatch.ensures.sound c.unwatch.ensures.held c.unwatch.ensures.depth c.unwatch.ensures.count c.unwatch.ensures.grown

pub calling::run_method-returns-in-On-clause-kept : goal.calling::run_method-returns-in-On-clause-kept
calling::run_method-returns-in-On-clause-kept t c = kept_by c.args.core.now c.on.new.core c.on.ensures.sound c.on.ensures.held c.on.ensures.depth c.on.ensures.count c.on.ensures.grown

pub calling::run_method-returns-in_err-name-in-Emit-clause-kept : goal.calling::run_method-returns-in_err-name-in-Emit-clause-kept
calling::run_method-returns-in_err-name-in-Emit-clause-kept t c = kept_same c.args.core.now c.requires.sound

pub calling::run_method-returns-in_err-after-in-Emit-clause-kept : goal.calling::run_method-returns-in_err-after-in-Emit-clause-kept
calling::run_method-returns-in_err-after-in-Emit-clause-kept t c = kept_same c.args.core.now c.requires.sound

pub calling::run_method-returns-in_err-name-in-Broadcast-clause-kept : goal.calling::run_method-returns-in_err-name-in-Broadcast-clause-kept
calling::run_method-returns-in_err-name-in-Broadcast-clause-kept t c = kept_same c.args.core.now c.requires.sound

pub calling::run_method-returns-in_err-after-in-Broadcast-clause-kept : goal.calling::run_method-returns-in_err-after-in-Broadcast-clause-kept
calling::run_method-returns-in_err-after-in-Broadcast-clause-kept t c = kept_same c.args.core.now c.requires.sound

pub calling::run_method-returns-in_err-destroy-in-Destroy-clause-kept : goal.calling::run_method-returns-in_err-destroy-in-Destroy-clause-kept
calling::run_method-returns-in_err-destroy-in-Destroy-clause-kept t c = kept_by c.args.core.now c.destroy.new.core c.destroy.ensures.sound c.destroy.ensures.held c.destroy.ensures.depth c.destroy.ensures.count c.destroy.ensures.grown

pub calling::run_method-returns-in-Destroy-clause-kept : goal.calling::run_method-returns-in-Destroy-clause-kept
calling::run_method-returns-in-Destroy-clause-kept t c = kept_by c.args.core.now c.destroy.new.core c.destroy.ensures.sound c.destroy.ensures.held c.destroy.ensures.depth c.destroy.ensures.count c.destroy.ensures.grown

pub calling::run_method-returns-in_err-p-in-Eval-clause-kept : goal.calling::run_method-returns-in_err-p-in-Eval-clause-kept
calling::run_method-returns-in_err-p-in-Eval-clause-kept t c = kept_same c.args.core.now c.requires.sound

pub calling::run_method-returns-in-Apply-clause-kept : goal.calling::run_method-returns-in-Apply-clause-kept
calling::run_method-returns-in-Apply-clause-kept t c = kept_same c.args.core.now c.requires.sound

pub calling::run_method-returns-in-Digest-clause-kept : goal.calling::run_method-returns-in-Digest-clause-kept
calling::run_method-returns-in-Digest-clause-kept t c = kept_same c.args.core.now c.requires.sound

pub calling::run_method-returns-in-Watch-clause-kept : goal.calling::run_method-returns-in-Watch-clause-kept
calling::run_method-returns-in-Watch-clause-kept t c = kept_by c.args.core.now c.watch.new.core c.watch.ensures.sound c.watch.ensures.held c.watch.ensures.depth c.watch.ensures.count c.watch.ensures.grown

pub calling::run_method-returns-in-WatchCollection-clause-kept : goal.calling::run_method-returns-in-WatchCollection-clause-kept
calling::run_method-returns-in-WatchCollection-clause-kept t c = kept_by c.args.core.now c.watch-in-WatchCollection.new.core c.watch-in-WatchCollection.ensures.sound c.watch-in-WatchCollection.ensures.held c.watch-in-WatchCollection.ensures.depth c.watch-in-WatchCollection.ensures.count c.watch-in-WatchCollection.ensures.grown

pub calling::run_method-returns-in-EvalAsync-clause-kept : goal.calling::run_method-returns-in-EvalAsync-clause-kept
calling::run_method-returns-in-EvalAsync-clause-kept t c = kept_by c.args.core.now c.defer.new.core c.defer.ensures.sound c.defer.ensures.held c.defer.ensures.depth c.defer.ensures.count c.defer.ensures.grown

pub emitting::emit_open-returns-in_err-e-clause-kept : goal.emitting::emit_open-returns-in_err-e-clause-kept
emitting::emit_open-returns-in_err-e-clause-kept t c = kept_by c.args.core.now c.announce.new.core c.announce.ensures.sound c.announce.ensures.held c.announce.ensures.depth c.announce.ensures.count c.announce.ensures.grown

pub emitting::emit_open-returns-in_err-rise-clause-kept : goal.emitting::emit_open-returns-in_err-rise-clause-kept
emitting::emit_open-returns-in_err-rise-clause-kept t c = kept_on c.args.core.now c.announce.new.core c.rise.new.core (kept_by c.args.core.now c.announce.new.core c.announce.ensures.sound c.announce.ensures.held c.announce.ensures.depth c.announce.ensures.count c.announce.ensures.grown) c.rise.ensures.kept

pub emitting::emit_open-returns-clause-kept : goal.emitting::emit_open-returns-clause-kept
emitting::emit_open-returns-clause-kept t c = kept_on c.args.core.now c.rise.new.core c.finish.new.core (kept_on c.args.core.now c.announce.new.core c.rise.new.core (kept_by c.args.core.now c.announce.new.core c.announce.ensures.sound c.announce.ensures.held c.announce.ensures.depth c.announce.ensures.count c.announce.ensures.grown) c.rise.ensures.kept) (kept_by c.rise.new.core c.finish.new.core c.finish.ensures.sound c.finish.ensures.held c.finish.ensures.depth c.finish.ensures.count c.finish.ensures.grown)

pub emitting::broadcast_open-returns-in_err-e-clause-kept : goal.emitting::broadcast_open-returns-in_err-e-clause-kept
emitting::broadcast_open-returns-in_err-e-clause-kept t c = kept_by c.args.core.now c.announce.new.core c.announce.ensures.sound c.announce.ensures.held c.announce.ensures.depth c.announce.ensures.count c.announce.ensures.grown

pub emitting::broadcast_open-returns-in_err-sweep-clause-kept : goal.emitting::broadcast_open-returns-in_err-sweep-clause-kept
emitting::broadcast_open-returns-in_err-sweep-clause-kept t c = kept_on c.args.core.now c.announce.new.core c.sweep.new.core (kept_by c.args.core.now c.announce.new.core c.announce.ensures.sound c.announce.ensures.held c.announce.ensures.depth c.announce.ensures.count c.announce.ensures.grown) c.sweep.ensures.kept

pub emitting::broadcast_open-returns-clause-kept : goal.emitting::broadcast_open-returns-clause-kept
emitting::broadcast_open-returns-clause-kept t c = kept_on c.args.core.now c.sweep.new.core c.finish.new.core (kept_on c.args.core.now c.announce.new.core c.sweep.new.core (kept_by c.args.core.now c.announce.new.core c.announce.ensures.sound c.announce.ensures.held c.announce.ensures.depth c.announce.ensures.count c.announce.ensures.grown) c.sweep.ensures.kept) (kept_by c.sweep.new.core c.finish.new.core c.finish.ensures.sound c.finish.ensures.held c.finish.ensures.depth c.finish.ensures.count c.finish.ensures.grown)

pub emitting::rise-returns-in_err-visit-in-Some-clause-kept : goal.emitting::rise-returns-in_err-visit-in-Some-clause-kept
emitting::rise-returns-in_err-visit-in-Some-clause-kept t c = kept_on c.args.core.now c.loop-i.core c.visit.new.core c.loop-i.invariant.kept c.visit.ensures.kept

pub emitting::rise-returns-then-is_stopped-clause-kept : goal.emitting::rise-returns-then-is_stopped-clause-kept
emitting::rise-returns-then-is_stopped-clause-kept t c = kept_on c.args.core.now c.loop-i.core c.visit.new.core c.loop-i.invariant.kept c.visit.ensures.kept

pub emitting::sweep-returns-in-None-clause-kept : goal.emitting::sweep-returns-in-None-clause-kept
emitting::sweep-returns-in-None-clause-kept t c = kept_on c.args.core.now c.visit.new.core c.loop-i.core c.visit.ensures.kept c.loop-i.invariant.kept

pub emitting::sweep-returns-in_err-visit-in-Some-clause-kept : goal.emitting::sweep-returns-in_err-visit-in-Some-clause-kept
emitting::sweep-returns-in_err-visit-in-Some-clause-kept t c = kept_on c.args.core.now c.loop-i.core c.visit-in-Some.new.core (kept_on c.args.core.now c.visit.new.core c.loop-i.core c.visit.ensures.kept c.loop-i.invariant.kept) c.visit-in-Some.ensures.kept

pub emitting::sweep-returns-clause-kept : goal.emitting::sweep-returns-clause-kept
emitting::sweep-returns-clause-kept t c = kept_on c.args.core.now c.visit.new.core c.loop-i.core c.visit.ensures.kept c.loop-i.invariant.kept

pub visiting::visit-returns-in_err-show_current-clause-kept : goal.visiting::visit-returns-in_err-show_current-clause-kept
visiting::visit-returns-in_err-show_current-clause-kept t c = kept_by c.args.core.now c.show_current.new.core c.show_current.ensures.sound c.show_current.ensures.held c.show_current.ensures.depth c.show_current.ensures.count c.show_current.ensures.grown

pub visiting::visit-returns-clause-kept : goal.visiting::visit-returns-clause-kept
visiting::visit-returns-clause-kept t c = kept_on c.args.core.now c.show_current.new.core c.hear.new.core (kept_by c.args.core.now c.show_current.new.core c.show_current.ensures.sound c.show_current.ensures.held c.show_current.ensures.depth c.show_current.ensures.count c.show_current.ensures.grown) c.hear.ensures.kept

pub visiting::take_turn-returns-in-None-clause-kept : goal.visiting::take_turn-returns-in-None-clause-kept
visiting::take_turn-returns-in-None-clause-kept t c = kept_same c.args.core.now c.requires.sound

pub visiting::take_turn-returns-in_err-locals-clause-kept : goal.visiting::take_turn-returns-in_err-locals-clause-kept
visiting::take_turn-returns-in_err-locals-clause-kept t c = kept_same c.args.core.now c.requires.sound

pub acting::acted_member-acted-requires : goal.acting::acted_member-acted-requires
acting::acted_member-acted-requires t c = asked c.args.core.now c.args.core.now (height (tree c.args.t.now)) (height (tree c.args.t.now)) 25 26 c.args.scope.0 t (kept_same c.args.core.now c.requires.sound) (same_height (height (tree c.args.t.now))) refl c.requires.scope c.requires.low c.decreases

pub acting::acted_unary-acted-requires : goal.acting::acted_unary-acted-requires
acting::acted_unary-acted-requires t c = asked c.args.core.now c.args.core.now (height (tree c.args.t.now)) (height (tree c.args.t.now)) 25 26 c.args.scope.0 t (kept_same c.args.core.now c.requires.sound) (same_height (height (tree c.args.t.now))) refl c.requires.scope c.requires.low c.decreases

pub acting::acted_item-acted-requires : goal.acting::acted_item-acted-requires
acting::acted_item-acted-requires t c = asked c.args.core.now c.args.core.now (height (tree c.args.t.now)) (max (height (tree c.args.t.now)) (height (tree c.args.i.now))) 25 26 c.args.scope.0 t (kept_same c.args.core.now c.requires.sound) (left_height (height (tree c.args.t.now)) (height (tree c.args.i.now))) refl c.requires.scope c.requires.low c.decreases

pub acting::acted_item-acted-requires-2 : goal.acting::acted_item-acted-requires-2
acting::acted_item-acted-requires-2 t c = asked c.args.core.now c.acted.new.core (height (tree c.args.i.now)) (max (height (tree c.args.t.now)) (height (tree c.args.i.now))) 25 26 c.args.scope.0 t c.acted.ensures.kept (right_height (height (tree c.args.t.now)) (height (tree c.args.i.now))) refl c.requires.scope c.requires.low_index c.decreases

pub acting::acted_call-reached-requires : goal.acting::acted_call-reached-requires
acting::acted_call-reached-requires t c = asked c.args.core.now c.args.core.now (height (tree c.args.t.now)) (max (height (tree c.args.t.now)) (heights (trees_from (map tree c.args.args.now)))) 27 28 c.args.scope.0 t (kept_same c.args.core.now c.requires.sound) (left_height (height (tree c.args.t.now)) (heights (trees_from (map tree c.args.args.now)))) refl c.requires.scope c.requires.low c.decreases

pub acting::acted_call-acted_all-requires : goal.acting::acted_call-acted_all-requires
acting::acted_call-acted_all-requires t c = asked c.args.core.now c.reached.new.core (heights (trees_from (map tree c.args.args.now))) (max (height (tree c.args.t.now)) (heights (trees_from (map tree c.args.args.now)))) 26 28 c.args.scope.0 t c.reached.ensures.kept (right_height (height (tree c.args.t.now)) (heights (trees_from (map tree c.args.args.now)))) refl c.requires.scope c.requires.low_args c.decreases

pub acting::acted_list-acted_all-requires : goal.acting::acted_list-acted_all-requires
acting::acted_list-acted_all-requires t c = asked c.args.core.now c.args.core.now (heights (trees_from (map tree c.args.items.now))) (heights (trees_from (map tree c.args.items.now))) 26 27 c.args.scope.0 t (kept_same c.args.core.now c.requires.sound) (same_height (heights (trees_from (map tree c.args.items.now)))) refl c.requires.scope c.requires.low c.decreases

pub acting::acted_record-acted_pairs-requires : goal.acting::acted_record-acted_pairs-requires
acting::acted_record-acted_pairs-requires t c = asked c.args.core.now c.args.core.now (pair_heights (pairs_from (map pair_tree c.args.pairs.now))) (pair_heights (pairs_from (map pair_tree c.args.pairs.now))) 27 28 c.args.scope.0 t (kept_same c.args.core.now c.requires.sound) (same_height (pair_heights (pairs_from (map pair_tree c.args.pairs.now)))) refl c.requires.scope c.requires.low c.decreases

pub acting::acted_binary-acted-requires : goal.acting::acted_binary-acted-requires
acting::acted_binary-acted-requires t c = asked c.args.core.now c.args.core.now (height (tree c.args.a.now)) (max (height (tree c.args.a.now)) (height (tree c.args.b.now))) 25 26 c.args.scope.0 t (kept_same c.args.core.now c.requires.sound) (left_height (height (tree c.args.a.now)) (height (tree c.args.b.now))) refl c.requires.scope c.requires.low c.decreases

pub acting::acted_binary-acted-requires-2 : goal.acting::acted_binary-acted-requires-2
acting::acted_binary-acted-requires-2 t c = asked c.args.core.now c.acted.new.core (height (tree c.args.b.now)) (max (height (tree c.args.a.now)) (height (tree c.args.b.now))) 25 26 c.args.scope.0 t c.acted.ensures.kept (right_height (height (tree c.args.a.now)) (height (tree c.args.b.now))) refl c.requires.scope c.requires.low_right c.decreases

pub acting::acted_both-acted-requires : goal.acting::acted_both-acted-requires
acting::acted_both-acted-requires t c = asked c.args.core.now c.args.core.now (height (tree c.args.a.now)) (max (height (tree c.args.a.now)) (height (tree c.args.b.now))) 25 26 c.args.scope.0 t (kept_same c.args.core.now c.requires.sound) (left_height (height (tree c.args.a.now)) (height (tree c.args.b.now))) refl c.requires.scope c.requires.low c.decreases

pub acting::acted_both-acted-requires-then-truthy : goal.acting::acted_both-acted-requires-then-truthy
acting::acted_both-acted-requires-then-truthy t c = asked c.args.core.now c.acted.new.core (height (tree c.args.b.now)) (max (height (tree c.args.a.now)) (height (tree c.args.b.now))) 25 26 c.args.scope.0 t c.acted.ensures.kept (right_height (height (tree c.args.a.now)) (height (tree c.args.b.now))) refl c.requires.scope c.requires.low_right c.decreases

pub acting::acted_either-acted-requires : goal.acting::acted_either-acted-requires
acting::acted_either-acted-requires t c = asked c.args.core.now c.args.core.now (height (tree c.args.a.now)) (max (height (tree c.args.a.now)) (height (tree c.args.b.now))) 25 26 c.args.scope.0 t (kept_same c.args.core.now c.requires.sound) (left_height (height (tree c.args.a.now)) (height (tree c.args.b.now))) refl c.requires.scope c.requires.low c.decreases

pub acting::acted_either-acted-requires-else-truthy : goal.acting::acted_either-acted-requires-else-truthy
acting::acted_either-acted-requires-else-truthy t c = asked c.args.core.now c.acted.new.core (height (tree c.args.b.now)) (max (height (tree c.args.a.now)) (height (tree c.args.b.now))) 25 26 c.args.scope.0 t c.acted.ensures.kept (right_height (height (tree c.args.a.now)) (height (tree c.args.b.now))) refl c.requires.scope c.requires.low_right c.decreases

pub acting::acted_choice-acted-requires : goal.acting::acted_choice-acted-requires
acting::acted_choice-acted-requires t c = asked c.args.core.now c.args.core.now (height (tree c.args.c.now)) (max (height (tree c.args.c.now)) (max (height (tree c.args.a.now)) (height (tree c.args.b.now)))) 25 26 c.args.scope.0 t (kept_same c.args.core.now c.requires.sound) (left_height (height (tree c.args.c.now)) (max (height (tree c.args.a.now)) (height (tree c.args.b.now)))) refl c.requires.scope c.requires.low c.decreases

pub acting::acted_choice-acted-requires-then-truthy : goal.acting::acted_choice-acted-requires-then-truthy
acting::acted_choice-acted-requires-then-truthy t c = asked c.args.core.now c.acted.new.core (height (tree c.args.a.now)) (max (height (tree c.args.c.now)) (max (height (tree c.args.a.now)) (height (tree c.args.b.now)))) 25 26 c.args.scope.0 t c.acted.ensures.kept (middle_height (height (tree c.args.c.now)) (height (tree c.args.a.now)) (height (tree c.args.b.now))) refl c.requires.scope c.requires.low_then c.decreases

pub acting::acted_choice-acted-requires-else-truthy : goal.acting::acted_choice-acted-requires-else-truthy
acting::acted_choice-acted-requires-else-truthy t c = asked c.args.core.now c.acted.new.core (height (tree c.args.b.now)) (max (height (tree c.args.c.now)) (max (height (tree c.args.a.now)) (height (tree c.args.b.now)))) 25 26 c.args.scope.0 t c.acted.ensures.kept (last_height (height (tree c.args.c.now)) (height (tree c.args.a.now)) (height (tree c.args.b.now))) refl c.requires.scope c.requires.low_else c.decreases

pub acting::acted_assign-left-requires : goal.acting::acted_assign-left-requires
acting::acted_assign-left-requires t c = asked c.args.core.now c.args.core.now (height (tree c.args.a.now)) (max (height (tree c.args.a.now)) (height (tree c.args.b.now))) 26 27 c.args.scope.0 t (kept_same c.args.core.now c.requires.sound) (left_height (height (tree c.args.a.now)) (height (tree c.args.b.now))) refl c.requires.scope c.requires.low c.decreases

pub acting::acted_assign-acted-requires : goal.acting::acted_assign-acted-requires
acting::acted_assign-acted-requires t c = asked c.args.core.now c.left.new.core (height (tree c.args.b.now)) (max (height (tree c.args.a.now)) (height (tree c.args.b.now))) 25 27 c.args.scope.0 t c.left.ensures.kept (right_height (height (tree c.args.a.now)) (height (tree c.args.b.now))) refl c.requires.scope c.requires.low_right c.decreases

pub acting::acted_filter-acted-requires : goal.acting::acted_filter-acted-requires
acting::acted_filter-acted-requires t c = asked c.args.core.now c.args.core.now (height (tree c.args.t.now)) (max (height (tree c.args.t.now)) (heights (trees_from (map tree c.args.args.now)))) 25 27 c.args.scope.0 t (kept_same c.args.core.now c.requires.sound) (left_height (height (tree c.args.t.now)) (heights (trees_from (map tree c.args.args.now)))) refl c.requires.scope c.requires.low c.decreases

pub acting::acted_filter-acted_all-requires : goal.acting::acted_filter-acted_all-requires
acting::acted_filter-acted_all-requires t c = asked c.args.core.now c.acted.new.core (heights (trees_from (map tree c.args.args.now))) (max (height (tree c.args.t.now)) (heights (trees_from (map tree c.args.args.now)))) 26 27 c.args.scope.0 t c.acted.ensures.kept (right_height (height (tree c.args.t.now)) (heights (trees_from (map tree c.args.args.now)))) refl c.requires.scope c.requires.low_args c.decreases

pub calling::call-call_function-requires : goal.calling::call-call_function-requires
calling::call-call_function-requires t c = (fell_by c.args.core.now.depth c.args.core.now.depth 18 19 t refl refl c.decreases, (c.requires.sound, c.requires.args))

pub calling::call_scope-run_method-requires : goal.calling::call_scope-run_method-requires
calling::call_scope-run_method-requires t c = (fell_by c.args.core.now.depth c.args.core.now.depth 17 18 t refl refl c.decreases, (c.requires.sound, (c.requires.scope, c.requires.args)))

pub calling::run_method-destroy-requires : goal.calling::run_method-destroy-requires
calling::run_method-destroy-requires t c = (fell_by c.args.core.now.depth c.args.core.now.depth 15 17 t refl refl c.decreases, (c.requires.sound, c.requires.scope))

pub emitting::destroy-announce_death-requires : goal.emitting::destroy-announce_death-requires
emitting::destroy-announce_death-requires t c = (fell_by c.args.core.now.depth c.args.core.now.depth 14 15 t refl refl c.decreases, (c.requires.sound, c.requires.scope))

pub emitting::emit_open-rise-requires : goal.emitting::emit_open-rise-requires
emitting::emit_open-rise-requires t c = (fell_by c.args.core.now.depth c.announce.new.core.depth 50 60 t c.announce.ensures.depth refl c.decreases, (c.announce.ensures.sound, (rw c.announce.ensures.count c.requires.scope, (inside_kept c.args.core.now c.announce.new.core c.announce.ensures.held c.announce.ensures.depth c.requires.inside, (c.in_ok-e.ensures.object, c.in_ok-e.ensures.args)))))

pub emitting::broadcast_open-sweep-requires : goal.emitting::broadcast_open-sweep-requires
emitting::broadcast_open-sweep-requires t c = (fell_by c.args.core.now.depth c.announce.new.core.depth 50 60 t c.announce.ensures.depth refl c.decreases, (c.announce.ensures.sound, (rw c.announce.ensures.count c.requires.scope, (inside_kept c.args.core.now c.announce.new.core c.announce.ensures.held c.announce.ensures.depth c.requires.inside, (c.in_ok-e.ensures.object, c.in_ok-e.ensures.args)))))

pub emitting::rise-visit-requires : goal.emitting::rise-visit-requires
emitting::rise-visit-requires t c = (fell_by c.args.core.now.depth c.loop-i.core.depth 45 50 t c.loop-i.invariant.kept.depth refl c.decreases, (c.loop-i.invariant.kept.sound, (rw c.in-Some.is at c.loop-i.invariant.within, (c.loop-i.invariant.inside, (c.loop-i.invariant.object, c.loop-i.invariant.args)))))

pub emitting::sweep-visit-requires : goal.emitting::sweep-visit-requires
emitting::sweep-visit-requires t c = (fell_by c.args.core.now.depth c.args.core.now.depth 45 50 t refl refl c.decreases, (c.requires.sound, (c.requires.scope, (c.requires.inside, (c.requires.object, c.requires.args)))))

pub emitting::sweep-visit-requires-in-Some : goal.emitting::sweep-visit-requires-in-Some
emitting::sweep-visit-requires-in-Some t c = (fell_by c.args.core.now.depth c.loop-i.core.depth 45 50 t (c.loop-i.invariant.kept.depth ∙ c.visit.ensures.kept.depth) refl c.decreases, (c.loop-i.invariant.kept.sound, (c.in-Some.ensures.within, (c.loop-i.invariant.inside, (c.loop-i.invariant.object, c.loop-i.invariant.args)))))

pub visiting::hear-take_turns-end-requires : goal.visiting::hear-take_turns-end-requires
visiting::hear-take_turns-end-requires t c = (fell_by c.args.core.now.depth c.begin_walk-walk.new.core.depth 30 40 t c.begin_walk-walk.ensures.depth refl c.decreases, (c.begin_walk-walk.ensures.sound, (rw c.begin_walk-walk.ensures.scopes c.requires.scope, (rw c.begin_walk-walk.ensures.store c.requires.object, (rw c.begin_walk-walk.ensures.store c.requires.args, c.begin_walk-walk.ensures.is_open)))))

pub visiting::take_turns-take_turn-requires : goal.visiting::take_turns-take_turn-requires
visiting::take_turns-take_turn-requires t c = (fell_by c.args.core.now.depth c.next_turn.new.core.depth 20 30 t (c.next_turn.ensures.depth ∙ c.loop-id.invariant.depth) refl c.decreases, (c.next_turn.ensures.sound, (rw (c.next_turn.ensures.scopes, c.loop-id.invariant.count) c.requires.scope, (rw c.next_turn.ensures.store c.loop-id.invariant.object, rw c.next_turn.ensures.store c.loop-id.invariant.args))))

pub calling::run_body-returns-clause-kept : goal.calling::run_body-returns-clause-kept
calling::run_body-returns-clause-kept t c = kept_within c.args.core.now c.enter_body-outer.new.core c.programmed-value.new.core c.leave_body.new.core c.enter_body-outer.ensures.held c.enter_body-outer.ensures.depth c.enter_body-outer.ensures.scopes c.enter_body-outer.ensures.store c.programmed-value.ensures.kept c.leave_body.ensures.sound c.leave_body.ensures.held c.leave_body.ensures.depth c.leave_body.ensures.scopes c.leave_body.ensures.store

pub emitting::emit_views-returns-clause-kept : goal.emitting::emit_views-returns-clause-kept
emitting::emit_views-returns-clause-kept t c = kept_within c.args.core.now c.open_event.new.core c.emit_open-value.new.core c.close_event.new.core c.open_event.ensures.held c.open_event.ensures.depth c.open_event.ensures.scopes c.open_event.ensures.store c.emit_open-value.ensures.kept c.close_event.ensures.sound c.close_event.ensures.held c.close_event.ensures.depth c.close_event.ensures.scopes c.close_event.ensures.store

pub emitting::broadcast_views-returns-clause-kept : goal.emitting::broadcast_views-returns-clause-kept
emitting::broadcast_views-returns-clause-kept t c = kept_within c.args.core.now c.open_event.new.core c.broadcast_open-value.new.core c.close_event.new.core c.open_event.ensures.held c.open_event.ensures.depth c.open_event.ensures.scopes c.open_event.ensures.store c.broadcast_open-value.ensures.kept c.close_event.ensures.sound c.close_event.ensures.held c.close_event.ensures.depth c.close_event.ensures.scopes c.close_event.ensures.store

pub acting::acted-acted_member-requires : goal.acting::acted-acted_member-requires
acting::acted-acted_member-requires t c = whole_asked c.args.core.now (height (tree c.deref.result.now)) (height (tree c.args.e.now)) 26 25 c.args.scope.0 t c.requires.sound (ap height (member_is c.args.e.now c.in-Member.t c.in-Member.n c.deref.result.now c.in-Member.is c.deref.ensures)) refl c.requires.scope (part_low (height (tree c.deref.result.now)) (height (tree c.deref.result.now)) (height (tree c.args.e.now)) (ap height (member_is c.args.e.now c.in-Member.t c.in-Member.n c.deref.result.now c.in-Member.is c.deref.ensures)) (same_height (height (tree c.deref.result.now))) c.requires.low) c.decreases

pub acting::acted-returns-in-Member-clause-run : goal.acting::acted-returns-in-Member-clause-run
acting::acted-returns-in-Member-clause-run t c = acted_as c.acted_member.result (does (64 - c.args.core.now.depth)) c.args.scope.0 (tree c.args.e.now) _ (state_of c.args.core.now) (state_of c.acted_member.new.core) (member_is c.args.e.now c.in-Member.t c.in-Member.n c.deref.result.now c.in-Member.is c.deref.ensures) c.acted_member.ensures.run

pub acting::acted-acted_item-requires : goal.acting::acted-acted_item-requires
acting::acted-acted_item-requires t c = whole_asked c.args.core.now (max (height (tree c.deref-in-Item.result.now)) (height (tree c.deref-in-Item-2.result.now))) (height (tree c.args.e.now)) 26 25 c.args.scope.0 t c.requires.sound (ap height (item_is c.args.e.now c.in-Item.t c.in-Item.i c.deref-in-Item.result.now c.deref-in-Item-2.result.now c.in-Item.is c.deref-in-Item.ensures c.deref-in-Item-2.ensures)) refl c.requires.scope (part_low (height (tree c.deref-in-Item.result.now)) (max (height (tree c.deref-in-Item.result.now)) (height (tree c.deref-in-Item-2.result.now))) (height (tree c.args.e.now)) (ap height (item_is c.args.e.now c.in-Item.t c.in-Item.i c.deref-in-Item.result.now c.deref-in-Item-2.result.now c.in-Item.is c.deref-in-Item.ensures c.deref-in-Item-2.ensures)) (left_height (height (tree c.deref-in-Item.result.now)) (height (tree c.deref-in-Item-2.result.now))) c.requires.low, part_low (height (tree c.deref-in-Item-2.result.now)) (max (height (tree c.deref-in-Item.result.now)) (height (tree c.deref-in-Item-2.result.now))) (height (tree c.args.e.now)) (ap height (item_is c.args.e.now c.in-Item.t c.in-Item.i c.deref-in-Item.result.now c.deref-in-Item-2.result.now c.in-Item.is c.deref-in-Item.ensures c.deref-in-Item-2.ensures)) (right_height (height (tree c.deref-in-Item.result.now)) (height (tree c.deref-in-Item-2.result.now))) c.requires.low) c.decreases

pub acting::acted-returns-in-Item-clause-run : goal.acting::acted-returns-in-Item-clause-run
acting::acted-returns-in-Item-clause-run t c = acted_as c.acted_item.result (does (64 - c.args.core.now.depth)) c.args.scope.0 (tree c.args.e.now) _ (state_of c.args.core.now) (state_of c.acted_item.new.core) (item_is c.args.e.now c.in-Item.t c.in-Item.i c.deref-in-Item.result.now c.deref-in-Item-2.result.now c.in-Item.is c.deref-in-Item.ensures c.deref-in-Item-2.ensures) c.acted_item.ensures.run

pub acting::acted-acted-requires : goal.acting::acted-acted-requires
acting::acted-acted-requires t c = whole_asked c.args.core.now (height (tree c.deref-in-Bracketed.result.now)) (height (tree c.args.e.now)) 25 25 c.args.scope.0 t c.requires.sound (ap height (bracketed_is c.args.e.now c.in-Bracketed.t c.deref-in-Bracketed.result.now c.in-Bracketed.is c.deref-in-Bracketed.ensures)) refl c.requires.scope (part_low (height (tree c.deref-in-Bracketed.result.now)) (height (tree c.deref-in-Bracketed.result.now)) (height (tree c.args.e.now)) (ap height (bracketed_is c.args.e.now c.in-Bracketed.t c.deref-in-Bracketed.result.now c.in-Bracketed.is c.deref-in-Bracketed.ensures)) (same_height (height (tree c.deref-in-Bracketed.result.now))) c.requires.low) c.decreases

pub acting::acted-returns-in-Bracketed-clause-run : goal.acting::acted-returns-in-Bracketed-clause-run
acting::acted-returns-in-Bracketed-clause-run t c = acted_as c.acted.result (does (64 - c.args.core.now.depth)) c.args.scope.0 (tree c.args.e.now) _ (state_of c.args.core.now) (state_of c.acted.new.core) (bracketed_is c.args.e.now c.in-Bracketed.t c.deref-in-Bracketed.result.now c.in-Bracketed.is c.deref-in-Bracketed.ensures) c.acted.ensures.run

pub acting::acted-acted_unary-requires : goal.acting::acted-acted_unary-requires
acting::acted-acted_unary-requires t c = whole_asked c.args.core.now (height (tree c.deref-in-Unary.result.now)) (height (tree c.args.e.now)) 26 25 c.args.scope.0 t c.requires.sound (ap height (unary_is c.args.e.now c.in-Unary.op c.in-Unary.t c.deref-in-Unary.result.now c.in-Unary.is c.deref-in-Unary.ensures)) refl c.requires.scope (part_low (height (tree c.deref-in-Unary.result.now)) (height (tree c.deref-in-Unary.result.now)) (height (tree c.args.e.now)) (ap height (unary_is c.args.e.now c.in-Unary.op c.in-Unary.t c.deref-in-Unary.result.now c.in-Unary.is c.deref-in-Unary.ensures)) (same_height (height (tree c.deref-in-Unary.result.now))) c.requires.low) c.decreases

pub acting::acted-returns-in-Unary-clause-run : goal.acting::acted-returns-in-Unary-clause-run
acting::acted-returns-in-Unary-clause-run t c = acted_as c.acted_unary.result (does (64 - c.args.core.now.depth)) c.args.scope.0 (tree c.args.e.now) _ (state_of c.args.core.now) (state_of c.acted_unary.new.core) (unary_is c.args.e.now c.in-Unary.op c.in-Unary.t c.deref-in-Unary.result.now c.in-Unary.is c.deref-in-Unary.ensures) c.acted_unary.ensures.run

pub acting::acted-acted_binary-requires : goal.acting::acted-acted_binary-requires
acting::acted-acted_binary-requires t c = whole_asked c.args.core.now (max (height (tree c.deref-in-Binary.result.now)) (height (tree c.deref-in-Binary-2.result.now))) (height (tree c.args.e.now)) 26 25 c.args.scope.0 t c.requires.sound (ap height (binary_is c.args.e.now c.in-Binary.op c.in-Binary.a c.in-Binary.b c.deref-in-Binary.result.now c.deref-in-Binary-2.result.now c.in-Binary.is c.deref-in-Binary.ensures c.deref-in-Binary-2.ensures)) refl c.requires.scope (part_low (height (tree c.deref-in-Binary.result.now)) (max (height (tree c.deref-in-Binary.result.now)) (height (tree c.deref-in-Binary-2.result.now))) (height (tree c.args.e.now)) (ap height (binary_is c.args.e.now c.in-Binary.op c.in-Binary.a c.in-Binary.b c.deref-in-Binary.result.now c.deref-in-Binary-2.result.now c.in-Binary.is c.deref-in-Binary.ensures c.deref-in-Binary-2.ensures)) (left_height (height (tree c.deref-in-Binary.result.now)) (height (tree c.deref-in-Binary-2.result.now))) c.requires.low, part_low (height (tree c.deref-in-Binary-2.result.now)) (max (height (tree c.deref-in-Binary.result.now)) (height (tree c.deref-in-Binary-2.result.now))) (height (tree c.args.e.now)) (ap height (binary_is c.args.e.now c.in-Binary.op c.in-Binary.a c.in-Binary.b c.deref-in-Binary.result.now c.deref-in-Binary-2.result.now c.in-Binary.is c.deref-in-Binary.ensures c.deref-in-Binary-2.ensures)) (right_height (height (tree c.deref-in-Binary.result.now)) (height (tree c.deref-in-Binary-2.result.now))) c.requires.low) c.decreases

pub acting::acted-returns-in-Binary-clause-run : goal.acting::acted-returns-in-Binary-clause-run
acting::acted-returns-in-Binary-clause-run t c = acted_as c.acted_binary.result (does (64 - c.args.core.now.depth)) c.args.scope.0 (tree c.args.e.now) _ (state_of c.args.core.now) (state_of c.acted_binary.new.core) (binary_is c.args.e.now c.in-Binary.op c.in-Binary.a c.in-Binary.b c.deref-in-Binary.result.now c.deref-in-Binary-2.result.now c.in-Binary.is c.deref-in-Binary.ensures c.deref-in-Binary-2.ensures) c.acted_binary.ensures.run

pub acting::acted-acted_both-requires : goal.acting::acted-acted_both-requires
acting::acted-acted_both-requires t c = whole_asked c.args.core.now (max (height (tree c.deref-in-Both.result.now)) (height (tree c.deref-in-Both-2.result.now))) (height (tree c.args.e.now)) 26 25 c.args.scope.0 t c.requires.sound (ap height (both_is c.args.e.now c.in-Both.a c.in-Both.b c.deref-in-Both.result.now c.deref-in-Both-2.result.now c.in-Both.is c.deref-in-Both.ensures c.deref-in-Both-2.ensures)) refl c.requires.scope (part_low (height (tree c.deref-in-Both.result.now)) (max (height (tree c.deref-in-Both.result.now)) (height (tree c.deref-in-Both-2.result.now))) (height (tree c.args.e.now)) (ap height (both_is c.args.e.now c.in-Both.a c.in-Both.b c.deref-in-Both.result.now c.deref-in-Both-2.result.now c.in-Both.is c.deref-in-Both.ensures c.deref-in-Both-2.ensures)) (left_height (height (tree c.deref-in-Both.result.now)) (height (tree c.deref-in-Both-2.result.now))) c.requires.low, part_low (height (tree c.deref-in-Both-2.result.now)) (max (height (tree c.deref-in-Both.result.now)) (height (tree c.deref-in-Both-2.result.now))) (height (tree c.args.e.now)) (ap height (both_is c.args.e.now c.in-Both.a c.in-Both.b c.deref-in-Both.result.now c.deref-in-Both-2.result.now c.in-Both.is c.deref-in-Both.ensures c.deref-in-Both-2.ensures)) (right_height (height (tree c.deref-in-Both.result.now)) (height (tree c.deref-in-Both-2.result.now))) c.requires.low) c.decreases

pub acting::acted-returns-in-Both-clause-run : goal.acting::acted-returns-in-Both-clause-run
acting::acted-returns-in-Both-clause-run t c = acted_as c.acted_both.result (does (64 - c.args.core.now.depth)) c.args.scope.0 (tree c.args.e.now) _ (state_of c.args.core.now) (state_of c.acted_both.new.core) (both_is c.args.e.now c.in-Both.a c.in-Both.b c.deref-in-Both.result.now c.deref-in-Both-2.result.now c.in-Both.is c.deref-in-Both.ensures c.deref-in-Both-2.ensures) c.acted_both.ensures.run

pub acting::acted-acted_either-requires : goal.acting::acted-acted_either-requires
acting::acted-acted_either-requires t c = whole_asked c.args.core.now (max (height (tree c.deref-in-Either.result.now)) (height (tree c.deref-in-Either-2.result.now))) (height (tree c.args.e.now)) 26 25 c.args.scope.0 t c.requires.sound (ap height (either_is c.args.e.now c.in-Either.a c.in-Either.b c.deref-in-Either.result.now c.deref-in-Either-2.result.now c.in-Either.is c.deref-in-Either.ensures c.deref-in-Either-2.ensures)) refl c.requires.scope (part_low (height (tree c.deref-in-Either.result.now)) (max (height (tree c.deref-in-Either.result.now)) (height (tree c.deref-in-Either-2.result.now))) (height (tree c.args.e.now)) (ap height (either_is c.args.e.now c.in-Either.a c.in-Either.b c.deref-in-Either.result.now c.deref-in-Either-2.result.now c.in-Either.is c.deref-in-Either.ensures c.deref-in-Either-2.ensures)) (left_height (height (tree c.deref-in-Either.result.now)) (height (tree c.deref-in-Either-2.result.now))) c.requires.low, part_low (height (tree c.deref-in-Either-2.result.now)) (max (height (tree c.deref-in-Either.result.now)) (height (tree c.deref-in-Either-2.result.now))) (height (tree c.args.e.now)) (ap height (either_is c.args.e.now c.in-Either.a c.in-Either.b c.deref-in-Either.result.now c.deref-in-Either-2.result.now c.in-Either.is c.deref-in-Either.ensures c.deref-in-Either-2.ensures)) (right_height (height (tree c.deref-in-Either.result.now)) (height (tree c.deref-in-Either-2.result.now))) c.requires.low) c.decreases

pub acting::acted-returns-in-Either-clause-run : goal.acting::acted-returns-in-Either-clause-run
acting::acted-returns-in-Either-clause-run t c = acted_as c.acted_either.result (does (64 - c.args.core.now.depth)) c.args.scope.0 (tree c.args.e.now) _ (state_of c.args.core.now) (state_of c.acted_either.new.core) (either_is c.args.e.now c.in-Either.a c.in-Either.b c.deref-in-Either.result.now c.deref-in-Either-2.result.now c.in-Either.is c.deref-in-Either.ensures c.deref-in-Either-2.ensures) c.acted_either.ensures.run

pub acting::acted-acted_choice-requires : goal.acting::acted-acted_choice-requires
acting::acted-acted_choice-requires t c = whole_asked c.args.core.now (max (height (tree c.deref-in-Choice.result.now)) (max (height (tree c.deref-in-Choice-2.result.now)) (height (tree c.deref-in-Choice-3.result.now)))) (height (tree c.args.e.now)) 26 25 c.args.scope.0 t c.requires.sound (ap height (choice_is c.args.e.now c.in-Choice.c c.in-Choice.a c.in-Choice.b c.deref-in-Choice.result.now c.deref-in-Choice-2.result.now c.deref-in-Choice-3.result.now c.in-Choice.is c.deref-in-Choice.ensures c.deref-in-Choice-2.ensures c.deref-in-Choice-3.ensures)) refl c.requires.scope (part_low (height (tree c.deref-in-Choice.result.now)) (max (height (tree c.deref-in-Choice.result.now)) (max (height (tree c.deref-in-Choice-2.result.now)) (height (tree c.deref-in-Choice-3.result.now)))) (height (tree c.args.e.now)) (ap height (choice_is c.args.e.now c.in-Choice.c c.in-Choice.a c.in-Choice.b c.deref-in-Choice.result.now c.deref-in-Choice-2.result.now c.deref-in-Choice-3.result.now c.in-Choice.is c.deref-in-Choice.ensures c.deref-in-Choice-2.ensures c.deref-in-Choice-3.ensures)) (left_height (height (tree c.deref-in-Choice.result.now)) (max (height (tree c.deref-in-Choice-2.result.now)) (height (tree c.deref-in-Choice-3.result.now)))) c.requires.low, (part_low (height (tree c.deref-in-Choice-2.result.now)) (max (height (tree c.deref-in-Choice.result.now)) (max (height (tree c.deref-in-Choice-2.result.now)) (height (tree c.deref-in-Choice-3.result.now)))) (height (tree c.args.e.now)) (ap height (choice_is c.args.e.now c.in-Choice.c c.in-Choice.a c.in-Choice.b c.deref-in-Choice.result.now c.deref-in-Choice-2.result.now c.deref-in-Choice-3.result.now c.in-Choice.is c.deref-in-Choice.ensures c.deref-in-Choice-2.ensures c.deref-in-Choice-3.ensures)) (middle_height (height (tree c.deref-in-Choice.result.now)) (height (tree c.deref-in-Choice-2.result.now)) (height (tree c.deref-in-Choice-3.result.now))) c.requires.low, part_low (height (tree c.deref-in-Choice-3.result.now)) (max (height (tree c.deref-in-Choice.result.now)) (max (height (tree c.deref-in-Choice-2.result.now)) (height (tree c.deref-in-Choice-3.result.now)))) (height (tree c.args.e.now)) (ap height (choice_is c.args.e.now c.in-Choice.c c.in-Choice.a c.in-Choice.b c.deref-in-Choice.result.now c.deref-in-Choice-2.result.now c.deref-in-Choice-3.result.now c.in-Choice.is c.deref-in-Choice.ensures c.deref-in-Choice-2.ensures c.deref-in-Choice-3.ensures)) (last_height (height (tree c.deref-in-Choice.result.now)) (height (tree c.deref-in-Choice-2.result.now)) (height (tree c.deref-in-Choice-3.result.now))) c.requires.low)) c.decreases

pub acting::acted-returns-in-Choice-clause-run : goal.acting::acted-returns-in-Choice-clause-run
acting::acted-returns-in-Choice-clause-run t c = acted_as c.acted_choice.result (does (64 - c.args.core.now.depth)) c.args.scope.0 (tree c.args.e.now) _ (state_of c.args.core.now) (state_of c.acted_choice.new.core) (choice_is c.args.e.now c.in-Choice.c c.in-Choice.a c.in-Choice.b c.deref-in-Choice.result.now c.deref-in-Choice-2.result.now c.deref-in-Choice-3.result.now c.in-Choice.is c.deref-in-Choice.ensures c.deref-in-Choice-2.ensures c.deref-in-Choice-3.ensures) c.acted_choice.ensures.run

pub acting::acted-acted_assign-requires : goal.acting::acted-acted_assign-requires
acting::acted-acted_assign-requires t c = whole_asked c.args.core.now (max (height (tree c.deref-in-Assign.result.now)) (height (tree c.deref-in-Assign-2.result.now))) (height (tree c.args.e.now)) 27 25 c.args.scope.0 t c.requires.sound (ap height (assign_is c.args.e.now c.in-Assign.a c.in-Assign.b c.deref-in-Assign.result.now c.deref-in-Assign-2.result.now c.in-Assign.is c.deref-in-Assign.ensures c.deref-in-Assign-2.ensures)) refl c.requires.scope (part_low (height (tree c.deref-in-Assign.result.now)) (max (height (tree c.deref-in-Assign.result.now)) (height (tree c.deref-in-Assign-2.result.now))) (height (tree c.args.e.now)) (ap height (assign_is c.args.e.now c.in-Assign.a c.in-Assign.b c.deref-in-Assign.result.now c.deref-in-Assign-2.result.now c.in-Assign.is c.deref-in-Assign.ensures c.deref-in-Assign-2.ensures)) (left_height (height (tree c.deref-in-Assign.result.now)) (height (tree c.deref-in-Assign-2.result.now))) c.requires.low, part_low (height (tree c.deref-in-Assign-2.result.now)) (max (height (tree c.deref-in-Assign.result.now)) (height (tree c.deref-in-Assign-2.result.now))) (height (tree c.args.e.now)) (ap height (assign_is c.args.e.now c.in-Assign.a c.in-Assign.b c.deref-in-Assign.result.now c.deref-in-Assign-2.result.now c.in-Assign.is c.deref-in-Assign.ensures c.deref-in-Assign-2.ensures)) (right_height (height (tree c.deref-in-Assign.result.now)) (height (tree c.deref-in-Assign-2.result.now))) c.requires.low) c.decreases

pub acting::acted-returns-in-Assign-clause-run : goal.acting::acted-returns-in-Assign-clause-run
acting::acted-returns-in-Assign-clause-run t c = acted_as c.acted_assign.result (does (64 - c.args.core.now.depth)) c.args.scope.0 (tree c.args.e.now) _ (state_of c.args.core.now) (state_of c.acted_assign.new.core) (assign_is c.args.e.now c.in-Assign.a c.in-Assign.b c.deref-in-Assign.result.now c.deref-in-Assign-2.result.now c.in-Assign.is c.deref-in-Assign.ensures c.deref-in-Assign-2.ensures) c.acted_assign.ensures.run

pub reaching::reached-acted-requires : goal.reaching::reached-acted-requires
reaching::reached-acted-requires t c = part_asked c.args.core.now c.args.core.now (height (tree c.deref.result.now)) (height (tree c.deref.result.now)) (height (tree c.args.e.now)) 25 27 c.args.scope.0 t (kept_same c.args.core.now c.requires.sound) (ap height (member_is c.args.e.now c.in-Member.t c.in-Member.n c.deref.result.now c.in-Member.is c.deref.ensures)) (same_height (height (tree c.deref.result.now))) refl c.requires.scope c.requires.low c.decreases

pub reaching::reached-acted-requires-in-Item : goal.reaching::reached-acted-requires-in-Item
reaching::reached-acted-requires-in-Item t c = part_asked c.args.core.now c.args.core.now (height (tree c.deref-in-Item.result.now)) (max (height (tree c.deref-in-Item.result.now)) (height (tree c.in-Item.i.value))) (height (tree c.args.e.now)) 25 27 c.args.scope.0 t (kept_same c.args.core.now c.requires.sound) (ap height (item_is c.args.e.now c.in-Item.t c.in-Item.i c.deref-in-Item.result.now c.in-Item.i.value c.in-Item.is c.deref-in-Item.ensures refl)) (left_height (height (tree c.deref-in-Item.result.now)) (height (tree c.in-Item.i.value))) refl c.requires.scope c.requires.low c.decreases

pub reaching::reached-acted-requires-in-Item-2 : goal.reaching::reached-acted-requires-in-Item-2
reaching::reached-acted-requires-in-Item-2 t c = part_asked c.args.core.now c.acted-in-Item.new.core (height (tree c.deref-in-Item-2.result.now)) (max (height (tree c.deref-in-Item.result.now)) (height (tree c.deref-in-Item-2.result.now))) (height (tree c.args.e.now)) 25 27 c.args.scope.0 t c.acted-in-Item.ensures.kept (ap height (item_is c.args.e.now c.in-Item.t c.in-Item.i c.deref-in-Item.result.now c.deref-in-Item-2.result.now c.in-Item.is c.deref-in-Item.ensures c.deref-in-Item-2.ensures)) (right_height (height (tree c.deref-in-Item.result.now)) (height (tree c.deref-in-Item-2.result.now))) refl c.requires.scope c.requires.low c.decreases

pub reaching::reached-acted-requires-in_default : goal.reaching::reached-acted-requires-in_default
reaching::reached-acted-requires-in_default t c = asked c.args.core.now c.args.core.now (height (tree c.args.e.now)) (height (tree c.args.e.now)) 25 27 c.args.scope.0 t (kept_same c.args.core.now c.requires.sound) (same_height (height (tree c.args.e.now))) refl c.requires.scope c.requires.low c.decreases

pub reaching::left-made-requires : goal.reaching::left-made-requires
reaching::left-made-requires t c = part_asked c.args.core.now c.args.core.now (height (tree c.deref.result.now)) (height (tree c.deref.result.now)) (height (tree c.args.e.now)) 26 26 c.args.scope.0 t (kept_same c.args.core.now c.requires.sound) (ap height (member_is c.args.e.now c.in-Member.t c.in-Member.n c.deref.result.now c.in-Member.is c.deref.ensures)) (same_height (height (tree c.deref.result.now))) refl c.requires.scope c.requires.low c.decreases

pub reaching::left-made-requires-in-Item : goal.reaching::left-made-requires-in-Item
reaching::left-made-requires-in-Item t c = part_asked c.args.core.now c.args.core.now (height (tree c.deref-in-Item.result.now)) (max (height (tree c.deref-in-Item.result.now)) (height (tree c.in-Item.i.value))) (height (tree c.args.e.now)) 26 26 c.args.scope.0 t (kept_same c.args.core.now c.requires.sound) (ap height (item_is c.args.e.now c.in-Item.t c.in-Item.i c.deref-in-Item.result.now c.in-Item.i.value c.in-Item.is c.deref-in-Item.ensures refl)) (left_height (height (tree c.deref-in-Item.result.now)) (height (tree c.in-Item.i.value))) refl c.requires.scope c.requires.low c.decreases

pub reaching::left-acted-requires : goal.reaching::left-acted-requires
reaching::left-acted-requires t c = part_asked c.args.core.now c.made-in-Item.new.core (height (tree c.deref-in-Item-2.result.now)) (max (height (tree c.deref-in-Item.result.now)) (height (tree c.deref-in-Item-2.result.now))) (height (tree c.args.e.now)) 25 26 c.args.scope.0 t c.made-in-Item.ensures.kept (ap height (item_is c.args.e.now c.in-Item.t c.in-Item.i c.deref-in-Item.result.now c.deref-in-Item-2.result.now c.in-Item.is c.deref-in-Item.ensures c.deref-in-Item-2.ensures)) (right_height (height (tree c.deref-in-Item.result.now)) (height (tree c.deref-in-Item-2.result.now))) refl c.requires.scope c.requires.low c.decreases

pub reaching::made-made-requires : goal.reaching::made-made-requires
reaching::made-made-requires t c = part_asked c.args.core.now c.args.core.now (height (tree c.deref.result.now)) (height (tree c.deref.result.now)) (height (tree c.args.e.now)) 26 26 c.args.scope.0 t (kept_same c.args.core.now c.requires.sound) (ap height (member_is c.args.e.now c.in-Member.t c.in-Member.n c.deref.result.now c.in-Member.is c.deref.ensures)) (same_height (height (tree c.deref.result.now))) refl c.requires.scope c.requires.low c.decreases

pub reaching::made-made-requires-in-Item : goal.reaching::made-made-requires-in-Item
reaching::made-made-requires-in-Item t c = part_asked c.args.core.now c.args.core.now (height (tree c.deref-in-Item.result.now)) (max (height (tree c.deref-in-Item.result.now)) (height (tree c.in-Item.i.value))) (height (tree c.args.e.now)) 26 26 c.args.scope.0 t (kept_same c.args.core.now c.requires.sound) (ap height (item_is c.args.e.now c.in-Item.t c.in-Item.i c.deref-in-Item.result.now c.in-Item.i.value c.in-Item.is c.deref-in-Item.ensures refl)) (left_height (height (tree c.deref-in-Item.result.now)) (height (tree c.in-Item.i.value))) refl c.requires.scope c.requires.low c.decreases

pub reaching::made-acted-requires : goal.reaching::made-acted-requires
reaching::made-acted-requires t c = part_asked c.args.core.now c.made-in-Item.new.core (height (tree c.deref-in-Item-2.result.now)) (max (height (tree c.deref-in-Item.result.now)) (height (tree c.deref-in-Item-2.result.now))) (height (tree c.args.e.now)) 25 26 c.args.scope.0 t c.made-in-Item.ensures.kept (ap height (item_is c.args.e.now c.in-Item.t c.in-Item.i c.deref-in-Item.result.now c.deref-in-Item-2.result.now c.in-Item.is c.deref-in-Item.ensures c.deref-in-Item-2.ensures)) (right_height (height (tree c.deref-in-Item.result.now)) (height (tree c.deref-in-Item-2.result.now))) refl c.requires.scope c.requires.low c.decreases

pub reaching::made-acted-requires-in_default : goal.reaching::made-acted-requires-in_default
reaching::made-acted-requires-in_default t c = asked c.args.core.now c.args.core.now (height (tree c.args.e.now)) (height (tree c.args.e.now)) 25 26 c.args.scope.0 t (kept_same c.args.core.now c.requires.sound) (same_height (height (tree c.args.e.now))) refl c.requires.scope c.requires.low c.decreases

pub series::acted_all-acted-requires : goal.series::acted_all-acted-requires
series::acted_all-acted-requires t c = let less : c.loop-item.item-index < length c.args.items.now = omega arith in let low = expr_low c.args.items.now c.loop-item.item-index c.item-item.result (heights (trees_from (map tree c.args.items.now))) less c.item-item.is c.loop-item.invariant.low in asked c.args.core.now c.loop-item.core (height (tree c.item-item.result)) (heights (trees_from (map tree c.args.items.now))) 25 26 c.args.scope.0 t c.loop-item.invariant.kept low.0 refl c.requires.scope (omega (arith, low.0, c.requires.low)) c.decreases

pub series::programmed-acted-requires : goal.series::programmed-acted-requires
series::programmed-acted-requires t c = let less : c.loop-item.item-index < length c.args.items.now = omega arith in let low = expr_low c.args.items.now c.loop-item.item-index c.item-item.result (heights (trees_from (map tree c.args.items.now))) less c.item-item.is c.loop-item.invariant.low in asked c.args.core.now c.loop-item.core (height (tree c.item-item.result)) (heights (trees_from (map tree c.args.items.now))) 25 26 c.args.scope.0 t c.loop-item.invariant.kept low.0 refl c.requires.scope (omega (arith, low.0, c.requires.low)) c.decreases

pub series::acted_pairs-acted_pair-requires : goal.series::acted_pairs-acted_pair-requires
series::acted_pairs-acted_pair-requires t c = let less : c.loop-pair.pair-index < length c.args.pairs.now = omega arith in let low = pair_low c.args.pairs.now c.loop-pair.pair-index c.pair-item.result (pair_heights (pairs_from (map pair_tree c.args.pairs.now))) less c.pair-item.is c.loop-pair.invariant.low in asked c.args.core.now c.loop-pair.core (pair_height (pair_tree c.pair-item.result)) (pair_heights (pairs_from (map pair_tree c.args.pairs.now))) 26 27 c.args.scope.0 t c.loop-pair.invariant.kept low.0 refl c.requires.scope (omega (arith, low.0, c.requires.low)) c.decreases
