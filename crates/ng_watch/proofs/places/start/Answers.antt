use Rattle.ng_watch.proofs.Chunks.{first_place, place_past}
use Rattle.ng_watch.proofs.places.start.Goals as goal

pub returns-in-None-clause-row : goal.returns-in-None-clause-row
returns-in-None-clause-row c = place_past c.args.chunks.now c.args.chunk 0 0 c.in-None.ensures.lookup.3

pub returns-in-Some-clause-row : goal.returns-in-Some-clause-row
returns-in-Some-clause-row c = first_place c.args.chunks.now c.args.chunk c.in-Some.chunk.now c.first-first.result.now c.in-Some.ensures.lookup.3.0 c.in-Some.ensures.lookup.1 c.first-first.ensures
