use Rattle.std.proofs.Common.{List, ap, subst, ◌≡◌, ◌∙◌}
use Rattle.std.specs.Prelude.{find}
use Rattle.ng_watch.specs.Chunks.{Rows, joined, row_at}
use Rattle.ng_behaviour.specs.Keys.{is_above}
use Rattle.ng_watch.proofs.AtPlaces.{Row, key_in}
use Rattle.ng_watch.proofs.table.RowTable.next_after.Goals as goal

pub returns : goal.returns
returns c =
    let k = c.args.key.now in
    let i = c.next_place-next.result.chunk in
    let j = c.next_place-next.result.row in
    let next = subst (λ (cs : List Rows). row_at cs i j ≡ find (λ (e : Row). is_above k e.0) (joined cs)) c.deref.ensures.value c.next_place-next.ensures in
    c.key_of.ensures ∙ ap key_in (c.row_at.ensures ∙ ap (λ (cs : List Rows). row_at cs i j) c.deref-2.ensures.value ∙ next ∙ ap (find (λ (e : Row). is_above k e.0)) c.self.view_is)
