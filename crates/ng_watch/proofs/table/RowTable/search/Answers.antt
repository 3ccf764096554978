use Rattle.std.proofs.Common.{List, ap, sym, subst, true, ◌≡◌, ◌∙◌}
use Rattle.ng_watch.specs.Chunks.{Rows, before, after, row_at, has_key, IsGap}
use Rattle.ng_watch.proofs.AtPlaces.{lookup_none, lookup_at, watcher_in}
use Rattle.ng_watch.proofs.table.RowTable.search.Goals as goal

pub returns-in_default : goal.returns-in_default
returns-in_default c =
    let k = c.args.key.now in
    let g = subst (λ (cs : List Rows). IsGap k (before cs c.in_default.field-0.chunk c.in_default.field-0.row) (after cs c.in_default.field-0.chunk c.in_default.field-0.row)) c.deref.ensures.value c.in_default.ensures.gap in
    record { value = sym (lookup_none k c.self.inside.chunks.items c.in_default.field-0.chunk c.in_default.field-0.row c.args.self.now c.self.view_is g) }

pub returns : goal.returns
returns c =
    let k = c.args.key.now in
    let h = subst (λ (cs : List Rows). has_key k (row_at cs c.in-Ok.at.chunk c.in-Ok.at.row) ≡ true) c.deref.ensures.value c.in-Ok.ensures.there in
    record { value = ap watcher_in (c.in_ok-row.ensures ∙ ap (λ (cs : List Rows). row_at cs c.in-Ok.at.chunk c.in-Ok.at.row) c.deref-2.ensures.value) ∙ sym (lookup_at k c.self.inside.chunks.items c.in-Ok.at.chunk c.in-Ok.at.row c.args.self.now c.self.view_is c.self.invariant.sorted h) }
