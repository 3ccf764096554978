use Rattle.std.proofs.Common.{List, ap, sym, subst, true, false, ◌≡◌, ◌∙◌}
use Rattle.ng_base.specs.declared.path.Key.{Key}
use Rattle.ng_watch.specs.Chunks.{Rows, joined, row_at, has_key, IsEdge}
use Rattle.ng_watch.specs.declared.watched.Watched.{Watched}
use Rattle.ng_watch.proofs.Chunks.{gap}
use Rattle.ng_watch.proofs.AtPlaces.{counted_changed, counted_more, insert_at}
use Rattle.ng_watch.proofs.table.RowTable.insert.Goals as goal

pub invariant_of-self : goal.invariant_of-self
invariant_of-self c =
    let h : has_key c.args.key (row_at c.self.inside.chunks.items c.edge-at.result.chunk c.edge-at.result.row) ≡ true = ap (λ (cs : List Rows). has_key c.args.key (row_at cs c.edge-at.result.chunk c.edge-at.result.row)) (sym c.deref-2.ensures.value) ∙ sym c.is_at.ensures ∙ c.if-is_at.true in
    counted_changed c.args.key c.self.inside.chunks.items c.edge-at.result.chunk c.edge-at.result.row c.self.inside.count c.self.invariant h (λ (e : Key × Watched). c.args.watched) (joined c.set_watched.new.chunks.items) c.set_watched.ensures

pub returns-then-is_at-clause-ok : goal.returns-then-is_at-clause-ok
returns-then-is_at-clause-ok c =
    let h : has_key c.args.key (row_at c.self.inside.chunks.items c.edge-at.result.chunk c.edge-at.result.row) ≡ true = ap (λ (cs : List Rows). has_key c.args.key (row_at cs c.edge-at.result.chunk c.edge-at.result.row)) (sym c.deref-2.ensures.value) ∙ sym c.is_at.ensures ∙ c.if-is_at.true in
    insert_at c.args.key c.self.inside.chunks.items c.edge-at.result.chunk c.edge-at.result.row c.args.self.now c.self.view_is c.self.invariant.sorted h c.args.watched (joined c.set_watched.new.chunks.items) c.set_watched.ensures

pub put_in-requires-clause-gap : goal.put_in-requires-clause-gap
put_in-requires-clause-gap c =
    let h : has_key c.args.key (row_at c.self.inside.chunks.items c.edge-at.result.chunk c.edge-at.result.row) ≡ false = ap (λ (cs : List Rows). has_key c.args.key (row_at cs c.edge-at.result.chunk c.edge-at.result.row)) (sym c.deref-2.ensures.value) ∙ sym c.is_at.ensures ∙ c.if-is_at.false in
    gap c.args.key c.self.inside.chunks.items c.edge-at.result.chunk c.edge-at.result.row c.self.invariant.sorted (subst (λ (cs : List Rows). IsEdge c.args.key cs c.edge-at.result.chunk c.edge-at.result.row) c.deref.ensures.value c.edge-at.ensures.edge) h

pub invariant_of-self-2 : goal.invariant_of-self-2
invariant_of-self-2 c =
    let h : has_key c.args.key (row_at c.self.inside.chunks.items c.edge-at.result.chunk c.edge-at.result.row) ≡ false = ap (λ (cs : List Rows). has_key c.args.key (row_at cs c.edge-at.result.chunk c.edge-at.result.row)) (sym c.deref-2.ensures.value) ∙ sym c.is_at.ensures ∙ c.if-is_at.false in
    let g = gap c.args.key c.self.inside.chunks.items c.edge-at.result.chunk c.edge-at.result.row c.self.invariant.sorted (subst (λ (cs : List Rows). IsEdge c.args.key cs c.edge-at.result.chunk c.edge-at.result.row) c.deref.ensures.value c.edge-at.ensures.edge) h in
    counted_more c.args.key c.self.inside.chunks.items c.edge-at.result.chunk c.edge-at.result.row c.self.inside.count c.self.invariant c.args.watched (joined c.put_in.new.chunks.items) g c.in_ok-put_in.ensures.ok
