use Rattle.std.proofs.Common.{List, Some, ap, sym, ◌≡◌, ◌∙◌}
use Rattle.ng_watch.specs.Chunks.{Rows, row_at}
use Rattle.ng_watch.proofs.AtPlaces.{lookup_row}
use Rattle.ng_watch.proofs.table.RowTable.at_place.Goals as goal

pub returns-in-Some : goal.returns-in-Some
returns-in-Some c =
    let i = c.args.at.chunk in
    let j = c.args.at.row in
    let is : row_at c.self.inside.chunks.items i j ≡ Some c.in-Some.row.now = sym (c.in-Some.ensures ∙ ap (λ (cs : List Rows). row_at cs i j) c.deref.ensures.value) in
    record { value = lookup_row c.args.key.now c.self.inside.chunks.items i j c.args.self.now c.self.view_is c.self.invariant.sorted c.in-Some.row.now is (sym c.is_of.ensures ∙ c.if-is_of.true) }
