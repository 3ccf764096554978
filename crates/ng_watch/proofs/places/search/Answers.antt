use Rattle.std.proofs.Common.{sym, ◌∙◌}
use Rattle.ng_watch.proofs.Chunks.{gap}
use Rattle.ng_watch.proofs.places.search.Goals as goal

pub returns-else-is_at-clause-gap : goal.returns-else-is_at-clause-gap
returns-else-is_at-clause-gap c = gap c.args.key.now c.args.chunks.now c.edge-at.result.chunk c.edge-at.result.row c.requires c.edge-at.ensures.edge (sym c.is_at.ensures ∙ c.if-is_at.false)
