use Rattle.std.proofs.Common.{◌<◌, List, length, ap, sym, subst, ◌∙◌}
use Rattle.ng_watch.specs.Chunks.{Rows, joined}
use Rattle.ng_watch.proofs.Chunks.{parted_chunk}
use Rattle.ng_watch.proofs.edits.split.Goals as goal

pub returns : goal.returns
returns c =
    let l : c.args.chunk < length c.reserve.new.self.items = subst (λ (cs : List Rows). c.args.chunk < length cs) (sym c.reserve.ensures.items) c.requires.there in
    parted_chunk c.reserve.new.self.items c.insert.new.self.items c.args.chunk c.index_mut.result.now c.split.new.self c.in_ok-upper.upper l c.index_mut.ensures.value c.in_ok-upper.ensures.ok c.in-Ok.ensures.items ∙ ap joined c.reserve.ensures.items
