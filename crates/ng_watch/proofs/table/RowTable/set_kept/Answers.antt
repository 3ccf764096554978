use Rattle.std.proofs.Common.{List, ap, sym, subst, true, ◌≡◌}
use Rattle.std.specs.Prelude.{option_map}
use Rattle.ng_base.specs.declared.path.Key.{Key}
use Rattle.ng_watch.specs.Chunks.{Rows, joined, before, after, row_at, has_key, IsGap}
use Rattle.ng_watch.specs.declared.watched.Watched.{Watched}
use Rattle.ng_watch.proofs.AtPlaces.{counted_changed, former_at, kept_at, lookup_none, no_kept}
use Rattle.ng_watch.proofs.table.RowTable.set_kept.Goals as goal

pub returns-in_default-clause-former : goal.returns-in_default-clause-former
returns-in_default-clause-former c =
    let k = c.args.key.now in
    let i = c.in_default.field-0.chunk in
    let j = c.in_default.field-0.row in
    let g = subst (λ (cs : List Rows). IsGap k (before cs i j) (after cs i j)) c.deref.ensures.value c.in_default.ensures.gap in
    sym (ap (option_map (λ (w : Watched). w.kept)) (lookup_none k c.self.inside.chunks.items i j c.args.self.now c.self.view_is g))

pub returns-in_default-clause-kept : goal.returns-in_default-clause-kept
returns-in_default-clause-kept c =
    let k = c.args.key.now in
    let i = c.in_default.field-0.chunk in
    let j = c.in_default.field-0.row in
    let g = subst (λ (cs : List Rows). IsGap k (before cs i j) (after cs i j)) c.deref.ensures.value c.in_default.ensures.gap in
    no_kept k c.self.inside.chunks.items i j c.args.self.now c.self.view_is g c.args.kept

pub invariant_of-self : goal.invariant_of-self
invariant_of-self c =
    let k = c.args.key.now in
    let i = c.in-Ok.at.chunk in
    let j = c.in-Ok.at.row in
    let h = subst (λ (cs : List Rows). has_key k (row_at cs i j) ≡ true) c.deref.ensures.value c.in-Ok.ensures.there in
    let f : Key × Watched → Watched = λ e. record { watch = e.1.watch; kept = c.args.kept } in
    counted_changed k c.self.inside.chunks.items i j c.self.inside.count c.self.invariant h f (joined c.set_kept.new.chunks.items) c.set_kept.ensures.kept

pub returns-clause-former : goal.returns-clause-former
returns-clause-former c =
    let k = c.args.key.now in
    let i = c.in-Ok.at.chunk in
    let j = c.in-Ok.at.row in
    let h = subst (λ (cs : List Rows). has_key k (row_at cs i j) ≡ true) c.deref.ensures.value c.in-Ok.ensures.there in
    former_at k c.self.inside.chunks.items i j c.args.self.now c.self.view_is c.self.invariant.sorted h c.set_kept.result c.args.kept c.set_kept.ensures.former

pub returns-clause-kept : goal.returns-clause-kept
returns-clause-kept c =
    let k = c.args.key.now in
    let i = c.in-Ok.at.chunk in
    let j = c.in-Ok.at.row in
    let h = subst (λ (cs : List Rows). has_key k (row_at cs i j) ≡ true) c.deref.ensures.value c.in-Ok.ensures.there in
    kept_at k c.self.inside.chunks.items i j c.args.self.now c.self.view_is c.self.invariant.sorted h c.args.kept (joined c.set_kept.new.chunks.items) c.set_kept.ensures.kept
