use Rattle.std.proofs.Common.{arith}
use Rattle.ng_watch.proofs.Chunks.{row_within, taken_from_chunk, taken_with_chunk}
use Rattle.ng_watch.proofs.edits.take_row.Goals as goal

pub remove-requires-clause-at : goal.remove-requires-clause-at
remove-requires-clause-at c = row_within c.args.chunks.now.items c.args.at.chunk c.args.at.row c.index_mut.result.now c.requires c.index_mut.ensures.value

pub returns-then-len-gt1-clause-left : goal.returns-then-len-gt1-clause-left
returns-then-len-gt1-clause-left c = taken_from_chunk c.args.chunks.now.items c.args.at.chunk c.args.at.row c.index_mut.result.now c.remove.new.self c.requires c.index_mut.ensures.value c.remove.ensures.removed

pub returns-else-len-gt1-clause-left : goal.returns-else-len-gt1-clause-left
returns-else-len-gt1-clause-left c = taken_with_chunk c.args.chunks.now.items c.args.at.chunk c.args.at.row c.index.result.now c.remove-else-len-gt1.new.self.items c.requires c.index.ensures (omega (arith, c.len.ensures.len, c.if-len-gt1.false)) c.remove-else-len-gt1.ensures.items
