use Rattle.std.proofs.Common.{◌≡◌, ◌∙◌}
use Rattle.ng_filters.specs.Parts.{items}
use Rattle.ng_filters.specs.Seen.{seen}
use Rattle.ng_filters.proofs.Rows.{rows_in_order}
use Rattle.ng_filters.proofs.ordering.items_in_order.Goals as goal

pub returns-clause-items : goal.returns-clause-items
returns-clause-items c =
    c.in_ok-sorted.ensures.items
    ∙ rows_in_order c.args.store.now c.args.reversed c.args.predicates.now c.in_ok-rows.rows.items c.sort.new.rows.items (items c.args.store.now (seen c.args.v)) c.in_ok-rows.ensures.rows c.in_ok-sort.ensures
