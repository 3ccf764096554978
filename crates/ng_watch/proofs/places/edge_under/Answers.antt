use Rattle.std.proofs.Common.{refl}
use Rattle.ng_watch.proofs.Under.{begin_here, none_before}
use Rattle.ng_watch.proofs.places.edge_under.Goals as goal

pub returns-clause-apart : goal.returns-clause-apart
returns-clause-apart c = begin_here c.args.p.now c.args.chunks.now c.edge.result.chunk c.edge.result.row _ c.edge.ensures.edge refl

pub returns-clause-behind : goal.returns-clause-behind
returns-clause-behind c = none_before c.args.p.now c.args.chunks.now c.edge.result.chunk c.edge.result.row _ c.requires c.edge.ensures.edge

pub returns-clause-row : goal.returns-clause-row
returns-clause-row c = c.edge.ensures.edge.row
