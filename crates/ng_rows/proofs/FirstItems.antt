-- The first entries of a repeat become items.
use Rattle.std.proofs.Common.{◌≡◌, ◌∙◌, ◌++◌, List, [], ◌∷◌, ap, sym}
use Rattle.std.specs.Prelude.{Ok}
use Rattle.ng_base.specs.Views.{ViewTree, prim}
use Rattle.ng_base.specs.declared.value.Value.{Value}
use Rattle.ng_core.specs.State as act
use Rattle.ng_core.specs.State.{Run, ◌>>=◌}
use Rattle.ng_drawing.specs.Roles.{Entry}
use Rattle.ng_rows.specs.RepeatRows.{item_made, items_made}
use Rattle.ng_rows.specs.Tracking.{Item}

pub first_made : (e : Entry) (es : List Entry) (done : List Item) (c d : act.State) (x : Item) → item_made e c ≡ (d, Ok x) → items_made (e ∷ es) done c ≡ items_made es (done ++ x ∷ []) d
first_made e es done c d x is = ap (λ (r : Run Item). r >>= λ y b. items_made es (done ++ y ∷ []) b) is

-- an entry whose value is no fresh list or record becomes one with that value, and nothing is written
pub plain_made : (e : Entry) (v : Value) (c : act.State) → e.value ≡ prim v → item_made e c ≡ (c, Ok (record { entry = e; value = v }))
plain_made e v c is =
    ap (λ (t : ViewTree). (let x : Entry = record { name = e.name; value = t } in item_made x c)) is
    ∙ sym (ap (λ (t : ViewTree). (let x : Entry = record { name = e.name; value = t } in let i : Item = record { entry = x; value = v } in let r : Run Item = (c, Ok i) in r)) is)
