use Rattle.ng_filters.proofs.Ranks.{by_predicates_total}
use Rattle.ng_filters.proofs.laws.comparison_is_total.Goals as goal

pub returns : goal.returns
returns g c = by_predicates_total c.args.store.now c.args.reversed g.predicates
