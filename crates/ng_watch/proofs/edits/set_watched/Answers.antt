use Rattle.ng_watch.proofs.Chunks.{row_within, written}
use Rattle.ng_watch.proofs.edits.set_watched.Goals as goal

pub set_watched-requires : goal.set_watched-requires
set_watched-requires c = row_within c.args.chunks.now.items c.args.at.chunk c.args.at.row c.index_mut.result.now c.requires c.index_mut.ensures.value

pub returns : goal.returns
returns c = λ e h. written c.args.chunks.now.items c.args.at.chunk c.args.at.row c.index_mut.result.now c.set_watched.new.self e (e.0, c.args.watched) h c.index_mut.ensures.value (c.set_watched.ensures e)
