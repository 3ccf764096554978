use Rattle.std.proofs.Common.{◌≡◌, ◌∙◌, ap, map}
use Rattle.ng_filters.specs.Seen.{indexed_seen}
use Rattle.ng_filters.proofs.Fields.{map-insert_indexed}
use Rattle.ng_filters.proofs.properties.insert_indexed.Goals as goal

pub returns-clause-inserted : goal.returns-clause-inserted
returns-clause-inserted c =
    ap (map indexed_seen) c.in_ok-insert.ensures.entries ∙ map-insert_indexed c.args.done.now.entries c.args.i c.args.property
