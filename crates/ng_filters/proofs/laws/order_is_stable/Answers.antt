use Rattle.std.proofs.lemmas.List.Sorted.{ranks_by}
use Rattle.ng_base.specs.ViewOf.{view_of}
use Rattle.ng_filters.specs.Ordering.{is_before, in_order}
use Rattle.ng_filters.specs.Parts.{items}
use Rattle.ng_filters.proofs.Ranks.{by_predicates_total}
use Rattle.ng_filters.proofs.Sorts.{in_order_permutes, in_order_rises, in_order_stable, rising_sorted}
use Rattle.ng_filters.proofs.laws.order_is_stable.Goals as goal

pub returns-clause-permutation : goal.returns-clause-permutation
returns-clause-permutation g c = in_order_permutes (is_before c.args.store.now c.args.reversed g.predicates) (items c.args.store.now (view_of c.args.input.now))

pub returns-clause-sorted : goal.returns-clause-sorted
returns-clause-sorted g c =
    let before = is_before c.args.store.now c.args.reversed g.predicates in
    let ts = items c.args.store.now (view_of c.args.input.now) in
    rising_sorted before (in_order before ts) (in_order_rises before (ranks_by (by_predicates_total c.args.store.now c.args.reversed g.predicates) (λ t. t)) ts)

pub returns-clause-stable : goal.returns-clause-stable
returns-clause-stable g c =
    in_order_stable (is_before c.args.store.now c.args.reversed g.predicates) (ranks_by (by_predicates_total c.args.store.now c.args.reversed g.predicates) (λ t. t)) (items c.args.store.now (view_of c.args.input.now))
