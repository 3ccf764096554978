use Rattle.std.proofs.Common.{get_or}
use Rattle.ng_watch.proofs.Chunks.{put_in_chunk, read_again, on_ok}
use Rattle.ng_watch.proofs.edits.insert_row.Goals as goal

pub returns-clause-ok : goal.returns-clause-ok
returns-clause-ok c = on_ok c.insert.result (put_in_chunk c.args.chunks.now c.args.at.chunk c.args.at.row (get_or c.args.chunks.now c.args.at.chunk c.index-chunks-at.result) c.insert.new.self c.args.row c.requires.chunk (read_again c.args.chunks.now c.args.at.chunk c.index-chunks-at.result c.index-chunks-at.is)) c.insert.ensures.ok
