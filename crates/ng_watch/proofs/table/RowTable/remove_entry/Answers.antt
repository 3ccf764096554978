use Rattle.std.proofs.Common.{List, ap, sym, subst, true, ◌≡◌, ◌∙◌, arith}
use Rattle.ng_watch.specs.Chunks.{Rows, joined, before, after, row_at, has_key, IsGap}
use Rattle.ng_watch.proofs.AtPlaces.{counted_less, key_in, lookup_at, lookup_key_at, lookup_key_none, lookup_none, remove_at, remove_none, some_row, watcher_in}
use Rattle.ng_watch.proofs.table.RowTable.remove_entry.Goals as goal

pub returns-in_default-clause-key : goal.returns-in_default-clause-key
returns-in_default-clause-key c =
    let k = c.args.key.now in
    let i = c.in_default.field-0.chunk in
    let j = c.in_default.field-0.row in
    let g = subst (λ (cs : List Rows). IsGap k (before cs i j) (after cs i j)) c.deref.ensures.value c.in_default.ensures.gap in
    sym (lookup_key_none k c.self.inside.chunks.items i j c.args.self.now c.self.view_is g)

pub returns-in_default-clause-value : goal.returns-in_default-clause-value
returns-in_default-clause-value c =
    let k = c.args.key.now in
    let i = c.in_default.field-0.chunk in
    let j = c.in_default.field-0.row in
    let g = subst (λ (cs : List Rows). IsGap k (before cs i j) (after cs i j)) c.deref.ensures.value c.in_default.ensures.gap in
    sym (lookup_none k c.self.inside.chunks.items i j c.args.self.now c.self.view_is g)

pub returns-in_default-clause-entries : goal.returns-in_default-clause-entries
returns-in_default-clause-entries c =
    let k = c.args.key.now in
    let i = c.in_default.field-0.chunk in
    let j = c.in_default.field-0.row in
    let g = subst (λ (cs : List Rows). IsGap k (before cs i j) (after cs i j)) c.deref.ensures.value c.in_default.ensures.gap in
    sym (remove_none k c.self.inside.chunks.items i j c.args.self.now c.self.view_is g)

pub overflow_sub-self : goal.overflow_sub-self
overflow_sub-self c =
    let k = c.args.key.now in
    let i = c.in-Ok.at.chunk in
    let j = c.in-Ok.at.row in
    let h = subst (λ (cs : List Rows). has_key k (row_at cs i j) ≡ true) c.deref.ensures.value c.in-Ok.ensures.there in
    omega (arith, c.self.invariant.counted, some_row k c.self.inside.chunks.items i j c.args.self.now c.self.view_is c.self.invariant.sorted h)

pub invariant_of-self : goal.invariant_of-self
invariant_of-self c =
    let k = c.args.key.now in
    let i = c.in-Ok.at.chunk in
    let j = c.in-Ok.at.row in
    let h = subst (λ (cs : List Rows). has_key k (row_at cs i j) ≡ true) c.deref.ensures.value c.in-Ok.ensures.there in
    counted_less k c.self.inside.chunks.items i j c.self.inside.count c.self.invariant h (joined c.take_row.new.chunks.items) c.take_row.ensures.left

pub returns-clause-key : goal.returns-clause-key
returns-clause-key c =
    let k = c.args.key.now in
    let i = c.in-Ok.at.chunk in
    let j = c.in-Ok.at.row in
    let h = subst (λ (cs : List Rows). has_key k (row_at cs i j) ≡ true) c.deref.ensures.value c.in-Ok.ensures.there in
    sym (ap key_in c.take_row.ensures.row) ∙ sym (lookup_key_at k c.self.inside.chunks.items i j c.args.self.now c.self.view_is c.self.invariant.sorted h)

pub returns-clause-value : goal.returns-clause-value
returns-clause-value c =
    let k = c.args.key.now in
    let i = c.in-Ok.at.chunk in
    let j = c.in-Ok.at.row in
    let h = subst (λ (cs : List Rows). has_key k (row_at cs i j) ≡ true) c.deref.ensures.value c.in-Ok.ensures.there in
    sym (ap watcher_in c.take_row.ensures.row) ∙ sym (lookup_at k c.self.inside.chunks.items i j c.args.self.now c.self.view_is c.self.invariant.sorted h)

pub returns-clause-entries : goal.returns-clause-entries
returns-clause-entries c =
    let k = c.args.key.now in
    let i = c.in-Ok.at.chunk in
    let j = c.in-Ok.at.row in
    let h = subst (λ (cs : List Rows). has_key k (row_at cs i j) ≡ true) c.deref.ensures.value c.in-Ok.ensures.there in
    c.take_row.ensures.left ∙ sym (remove_at k c.self.inside.chunks.items i j c.args.self.now c.self.view_is c.self.invariant.sorted h)

pub returns-clause-ordered : goal.returns-clause-ordered
returns-clause-ordered c =
    let k = c.args.key.now in
    let i = c.in-Ok.at.chunk in
    let j = c.in-Ok.at.row in
    let h = subst (λ (cs : List Rows). has_key k (row_at cs i j) ≡ true) c.deref.ensures.value c.in-Ok.ensures.there in
    (counted_less k c.self.inside.chunks.items i j c.self.inside.count c.self.invariant h (joined c.take_row.new.chunks.items) c.take_row.ensures.left).sorted
