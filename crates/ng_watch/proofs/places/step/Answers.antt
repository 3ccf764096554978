use Rattle.std.proofs.Common.{suc, ◌∙◌, arith}
use Rattle.ng_watch.proofs.Chunks.{place_past, next_within, next_chunk, rest_chunk, rest_past, rest_within}
use Rattle.ng_watch.proofs.places.step.Goals as goal

pub returns-in-None-clause-row : goal.returns-in-None-clause-row
returns-in-None-clause-row c = place_past c.args.chunks.now c.args.at.chunk c.args.at.row (suc c.args.at.row) c.in-None.ensures.lookup.3

pub returns-in-None-clause-rest : goal.returns-in-None-clause-rest
returns-in-None-clause-rest c = rest_past c.args.chunks.now c.args.at.chunk c.args.at.row c.in-None.ensures.lookup.3

pub returns-then-at-len-clause-row : goal.returns-then-at-len-clause-row
returns-then-at-len-clause-row c = next_within c.args.chunks.now c.args.at.chunk c.args.at.row c.in-Some.chunk.now c.in-Some.ensures.lookup.3.0 c.in-Some.ensures.lookup.1 (omega (arith, c.len.ensures.len, c.if-at-len.true))

pub returns-then-at-len-clause-rest : goal.returns-then-at-len-clause-rest
returns-then-at-len-clause-rest c = rest_within c.args.chunks.now c.args.at.chunk c.args.at.row

pub returns-else-at-len-clause-row : goal.returns-else-at-len-clause-row
returns-else-at-len-clause-row c = c.start.ensures.row ∙ next_chunk c.args.chunks.now c.args.at.chunk c.args.at.row c.in-Some.chunk.now c.in-Some.ensures.lookup.3.0 c.in-Some.ensures.lookup.1 (omega (arith, c.len.ensures.len, c.if-at-len.false))

pub returns-else-at-len-clause-rest : goal.returns-else-at-len-clause-rest
returns-else-at-len-clause-rest c = c.start.ensures.rest ∙ rest_chunk c.args.chunks.now c.args.at.chunk c.args.at.row c.in-Some.chunk.now c.in-Some.ensures.lookup.3.0 c.in-Some.ensures.lookup.1 (omega (arith, c.len.ensures.len, c.if-at-len.false))
