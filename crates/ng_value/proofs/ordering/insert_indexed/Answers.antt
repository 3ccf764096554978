use Rattle.std.proofs.Common.{◌∙◌, ap, map}
use Rattle.ng_value.specs.Seen.{indexed_field}
use Rattle.ng_value.proofs.Orders.{map-insert_indexed}
use Rattle.ng_value.proofs.ordering.insert_indexed.Goals as goal

pub returns-clause-inserted : goal.returns-clause-inserted
returns-clause-inserted c =
    ap (map indexed_field) c.in_ok-insert.ensures.entries ∙ map-insert_indexed c.args.done.now.entries c.args.i c.args.field
