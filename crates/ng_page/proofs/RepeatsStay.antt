-- What the fire of a repeat leaves of the core.
use Rattle.std.proofs.Common.{◌≤◌, ℕ, List, [], ◌∷◌, ◌++◌, length, Ok, arith}
use Rattle.ng_core.specs.Keeping.{stores}
use Rattle.ng_core.specs.State.{State}
use Rattle.ng_core.proofs.Grows.{named-grows}
use Rattle.ng_base.specs.Objects.{Object}
use Rattle.ng_behaviour.specs.Scopes.{object_at}
use Rattle.ng_drawing.specs.Roles.{Entry}
use Rattle.ng_rows.specs.Chosen.{told_on}
use Rattle.ng_rows.specs.RepeatRows.{item_made, items_made}
use Rattle.ng_rows.specs.Tracking.{Item}
use Rattle.ng_language.specs.Objects.{set_name}
use Rattle.ng_members.specs.Leaves.{Local}
use Rattle.ng_write.specs.Making.{value_in}
use Rattle.ng_write.specs.Storing.{with_names}
use Rattle.ng_commands.proofs.EventsStay.{part, Stays, stays_refl, objects_stay}
use Rattle.ng_commands.proofs.ProgramsStay.{bind_stay, stores_stay}

names_grow : (names : List Local) (objects : List Object) (o : ℕ) → length objects ≤ length (with_names objects o names)
names_grow [] objects o = omega arith
names_grow (x ∷ xs) objects o =
    let one = named-grows objects o x.0 x.1 in
    let rest = names_grow xs (set_name objects o x.0 x.1) o in
    omega (arith, one, rest)

pub told_stay : (scope : ℕ) (names : List Local) (c : State) → Stays (part c) (part (told_on scope names c))
told_stay scope names c = objects_stay (part c) (length (told_on scope names c).objects) (names_grow names c.objects (object_at c.scopes scope))

item_stays : (e : Entry) (c : State) → Stays (part c) (part (item_made e c).0)
item_stays e c =
    bind_stay (part c) (stores e.value c).0 (stores e.value c).1 (λ t d. (let x : Item = record { entry = e; value = value_in t } in (d, Ok x))) (stores_stay e.value c) (λ t d. stays_refl (part d))

pub items_stay : (es : List Entry) (done : List Item) (c : State) → Stays (part c) (part (items_made es done c).0)
items_stay [] done c = stays_refl (part c)
items_stay (e ∷ es) done c = bind_stay (part c) (item_made e c).0 (item_made e c).1 (λ x d. items_made es (done ++ x ∷ []) d) (item_stays e c) (λ x d. items_stay es (done ++ x ∷ []) d)
