use Rattle.std.proofs.lemmas.List.Sorted.{ranks_by}
use Rattle.ng_base.specs.Views.{views_list}
use Rattle.ng_base.specs.ViewOf.{view_of, views_of}
use Rattle.ng_filters.specs.Ordering.{is_before}
use Rattle.ng_filters.specs.Parts.{items}
use Rattle.ng_filters.proofs.Ranks.{by_predicates_total}
use Rattle.ng_filters.proofs.Sorts.{sorted_is}
use Rattle.ng_filters.proofs.laws.order_is_the_only_one.Goals as goal

pub returns : goal.returns
returns g c =
    sorted_is (is_before c.args.store.now c.args.reversed g.predicates) (ranks_by (by_predicates_total c.args.store.now c.args.reversed g.predicates) (λ t. t))
    (items c.args.store.now (view_of c.args.input.now)) (views_list (views_of c.args.other.now)) c.requires.0 c.requires.1
