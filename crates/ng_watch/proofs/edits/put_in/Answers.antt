use Rattle.std.proofs.Common.{List, ap, subst, ◌∙◌}
use Rattle.std.specs.BTreeMap.{insert_entry}
use Rattle.ng_watch.specs.Chunks.{Rows, IsEdge}
use Rattle.ng_behaviour.specs.Keys.{key_cmp}
use Rattle.ng_watch.proofs.Chunks.{gap_kept, on_ok, put_in_is}
use Rattle.ng_watch.proofs.edits.put_in.Goals as goal

pub returns-then-not-is_full-clause-ok : goal.returns-then-not-is_full-clause-ok
returns-then-not-is_full-clause-ok c = on_ok c.put_at.result (λ e. e ∙ put_in_is c.args.row.0 c.args.row.1 c.args.chunks.now.items c.args.at.chunk c.args.at.row c.requires.gap) c.put_at.ensures.ok

pub returns-clause-ok : goal.returns-clause-ok
returns-clause-ok c =
    let cs = c.split.new.chunks.items in
    let edge = subst (λ (ds : List Rows). IsEdge c.args.row.0 ds c.edge-at.result.chunk c.edge-at.result.row) c.deref-2.ensures.value c.edge-at.ensures.edge in
    on_ok c.put_at-2.result (λ e. e ∙ put_in_is c.args.row.0 c.args.row.1 cs c.edge-at.result.chunk c.edge-at.result.row (gap_kept c.args.row.0 c.args.chunks.now.items c.args.at.chunk c.args.at.row cs c.edge-at.result.chunk c.edge-at.result.row c.requires.sorted c.requires.gap c.split.ensures edge) ∙ ap (λ (es : Rows). insert_entry key_cmp es c.args.row.0 c.args.row.1) c.split.ensures) c.put_at-2.ensures.ok
