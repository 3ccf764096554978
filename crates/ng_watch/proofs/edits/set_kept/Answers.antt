use Rattle.ng_watch.proofs.Chunks.{row_within, written, read_row}
use Rattle.ng_watch.proofs.edits.set_kept.Goals as goal

pub set_kept-requires : goal.set_kept-requires
set_kept-requires c = row_within c.args.chunks.now.items c.args.at.chunk c.args.at.row c.index_mut.result.now c.requires c.index_mut.ensures.value

pub returns-clause-former : goal.returns-clause-former
returns-clause-former c = λ e h. c.set_kept.ensures.former e (read_row c.args.chunks.now.items c.args.at.chunk c.args.at.row c.index_mut.result.now e h c.index_mut.ensures.value)

pub returns-clause-kept : goal.returns-clause-kept
returns-clause-kept c = λ e h. written c.args.chunks.now.items c.args.at.chunk c.args.at.row c.index_mut.result.now c.set_kept.new.self e (e.0, record { watch = e.1.watch; kept = c.args.kept }) h c.index_mut.ensures.value (c.set_kept.ensures.kept e)
