use Rattle.ng_watch.proofs.Chunks.{end_is}
use Rattle.ng_watch.proofs.edits.room_at_end.Goals as goal

pub returns-clause-end : goal.returns-clause-end
returns-clause-end c = end_is c.args.chunks.now c.in_ok-last.last.now c.len.result c.in_ok-last.ensures.value c.len.ensures.len
