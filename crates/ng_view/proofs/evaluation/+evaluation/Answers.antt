use Rattle.std.proofs.Common.{◌≡◌, ◌∙◌, sym, ap, subst, length, map, arith}
use Rattle.ng_base.specs.Faults.{is_memory}
use Rattle.ng_base.specs.Meets.{Gives}
use Rattle.ng_base.specs.ViewOf.{view_of, views_of, field_of}
use Rattle.ng_language.specs.Heights.{pair_heights}
use Rattle.ng_language.specs.Trees.{Tree, call_of, filtered, trees_from, pairs_from}
use Rattle.ng_parse.specs.TreeOf.{tree, pair_tree}
use Rattle.ng_evaluation.specs.Evaluation.{evaluated}
use Rattle.ng_members.specs.Leaves.{FieldsAllStand}
use Rattle.ng_members.proofs.Stand.{views_all_stand, put_stands}
use Rattle.ng_view.proofs.TreeNodes.{tree_of-Call, tree_of-Filter}
use Rattle.ng_view.proofs.Pairs.{pairs_known, pairs_low, pairs_same}
use Rattle.ng_view.proofs.evaluation.+evaluation.Goals as goal

pub evaluated-returns-in-Call-clause-exact : goal.evaluated-returns-in-Call-clause-exact
evaluated-returns-in-Call-clause-exact t c =
    let ts = trees_from (map tree c.in-Call.args.items) in
    let whole : tree c.args.e.now ≡ call_of (tree c.in-Call.t.value) ts = ap tree c.in-Call.is ∙ tree_of-Call c.in-Call.t c.in-Call.args in
    let same : call_of (tree c.deref-in-Call.result.now) ts ≡ tree c.args.e.now = ap (λ x. call_of (tree x) ts) c.deref-in-Call.ensures ∙ sym whole in
    subst (λ (x : Tree). Gives is_memory view_of (evaluated c.args.store.now c.args.scope.0 c.args.locals.now x) c.evaluated_call.result) same c.evaluated_call.ensures.exact

pub evaluated-returns-in-Filter-clause-exact : goal.evaluated-returns-in-Filter-clause-exact
evaluated-returns-in-Filter-clause-exact t c =
    let ts = trees_from (map tree c.in-Filter.args.items) in
    let whole : tree c.args.e.now ≡ filtered (tree c.in-Filter.t.value) c.in-Filter.name ts = ap tree c.in-Filter.is ∙ tree_of-Filter c.in-Filter.t c.in-Filter.name c.in-Filter.args in
    let same : filtered (tree c.deref-in-Filter.result.now) c.in-Filter.name ts ≡ tree c.args.e.now = ap (λ x. filtered (tree x) c.in-Filter.name ts) c.deref-in-Filter.ensures ∙ sym whole in
    subst (λ (x : Tree). Gives is_memory view_of (evaluated c.args.store.now c.args.scope.0 c.args.locals.now x) c.evaluated_filter.result) same c.evaluated_filter.ensures.exact

pub evaluated_list-returns-clause-stands : goal.evaluated_list-returns-clause-stands
evaluated_list-returns-clause-stands t c = c.list_view.ensures.stands (length c.args.store.now) c.in_ok-views.ensures.stands

pub evaluated_record-returns-clause-stands : goal.evaluated_record-returns-clause-stands
evaluated_record-returns-clause-stands t c =
    let n = length c.args.store.now in
    c.record_view.ensures.stands n (subst (FieldsAllStand n) (sym c.in_ok-record_of.ensures) c.in_ok-fields.ensures.stands)

pub evaluated_sign-returns-clause-stands : goal.evaluated_sign-returns-clause-stands
evaluated_sign-returns-clause-stands t c = c.sign_value.ensures.stands (length c.args.store.now)

pub evaluated_filter-apply-requires-clause-args : goal.evaluated_filter-apply-requires-clause-args
evaluated_filter-apply-requires-clause-args t c = views_all_stand (length c.args.store.now) (views_of c.in_ok-args.args) c.in_ok-args.ensures.stands

pub evaluated_pairs-loop-pair-preserved : goal.evaluated_pairs-loop-pair-preserved
evaluated_pairs-loop-pair-preserved t c =
    let n = length c.args.store.now in
    let ps = c.args.pairs.now in
    let i = c.loop-pair.pair-index in
    let done = map field_of c.loop-pair.fields.entries in
    let name = c.in_ok-name.name in
    let v = view_of c.in_ok-name.v in
    record {
      low = pairs_low ps i c.pair-item.result (pair_heights (pairs_from (map pair_tree ps))) (omega arith) c.pair-item.is c.loop-pair.invariant.low;
      known = pairs_known ps i c.pair-item.result (omega arith) c.pair-item.is c.loop-pair.invariant.known;
      stands = subst (FieldsAllStand n) (sym c.in_ok-put_field.ensures) (put_stands n done name v c.loop-pair.invariant.stands c.in_ok-name.ensures.stands);
      same =
          rw c.in_ok-put_field.ensures
          (sym (pairs_same c.args.store.now c.args.scope.0 c.args.locals.now done ps i c.pair-item.result name v (omega arith) c.pair-item.is c.in_ok-name.ensures.exact) ∙ c.loop-pair.invariant.same);
    }
