use Rattle.ng_watch.specs.Chunks.{key_from}
use Rattle.ng_watch.proofs.Chunks.{sorted_chunk, edge_past, edge_within}
use Rattle.ng_watch.proofs.places.edge.Goals as goal

pub below-requires : goal.below-requires
below-requires c = sorted_chunk c.args.chunks.now c.chunk_for-at.result c.in-Some.chunk.now c.requires c.in-Some.ensures.lookup.3.0 c.in-Some.ensures.lookup.1

pub returns-in-None-clause-edge : goal.returns-in-None-clause-edge
returns-in-None-clause-edge c = edge_past (key_from c.args.path.now c.args.serial) c.args.chunks.now c.chunk_for-at.result c.in-None.ensures.lookup.3 c.chunk_for-at.ensures.lower

pub returns-in-Some-clause-edge : goal.returns-in-Some-clause-edge
returns-in-Some-clause-edge c = edge_within (key_from c.args.path.now c.args.serial) c.args.chunks.now c.chunk_for-at.result c.below.result c.in-Some.chunk.now c.in-Some.ensures.lookup.3.0 c.in-Some.ensures.lookup.1 c.chunk_for-at.ensures.lower c.chunk_for-at.ensures.upper c.below.ensures.some c.below.ensures.bound c.below.ensures.lower c.below.ensures.upper
