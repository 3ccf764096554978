-- Entries get their values, and items their track keys, one after another.
use Rattle.std.proofs.Common.{◌++◌, ℕ, Bool, true, false, List, [], ◌∷◌, if◌then◌else◌}
use Rattle.std.specs.Prelude.{Some, Ok}
use Rattle.ng_core.specs.Keeping.{stores}
use Rattle.ng_core.specs.State as act
use Rattle.ng_core.specs.State.{Run}
use Rattle.ng_base.specs.Views.{ViewTree, ViewTrees, ViewFields, prim, list, rec, no_views, view_then, no_fields, field_then}
use Rattle.ng_drawing.specs.Roles.{Entry, entries_in, item_entries, named_entries}
use Rattle.ng_changes.proofs.Rising.{mark, Rises, rises-refl}
use Rattle.ng_changes.proofs.RisingPrograms.{bind-rises, stores-rises}
use Rattle.ng_rows.specs.RepeatRows.{item_made, items_made}
use Rattle.ng_rows.specs.Tracking.{Item}
use Rattle.ng_rows.specs.TrackingOf.{EntriesStand}
use Rattle.ng_language.specs.Unfolding.{is_dollar}
use Rattle.ng_language.specs.Views.{ViewStands, ViewsStand, FieldsStand}
use Rattle.ng_write.specs.Making.{value_in}

-- ---- what the making leaves of the core

abbrev with_value : Entry → ViewTree → act.State → Run Item
with_value e t d = (d, Ok (record { entry = e; value = value_in t }))

item_rises : (e : Entry) (c : act.State) → Rises (mark c) (mark (item_made e c).0)
item_rises e c =
    let r : Run ViewTree = stores e.value c in
    bind-rises (mark c) r.0 r.1 (with_value e) (stores-rises e.value c) (λ t d. rises-refl (mark d))

pub items_rise : (es : List Entry) (done : List Item) (c : act.State) → Rises (mark c) (mark (items_made es done c).0)
items_rise [] done c = rises-refl (mark c)
items_rise (e ∷ es) done c =
    let r : Run Item = item_made e c in
    bind-rises (mark c) r.0 r.1 (λ x d. items_made es (done ++ x ∷ []) d) (item_rises e c) (λ x d. items_rise es (done ++ x ∷ []) d)

-- ---- what the entries of a value name stands with it

items_stand : (n : ℕ) (ts : ViewTrees) → ViewsStand n ts → EntriesStand n (item_entries ts)
items_stand n no_views h = tt
items_stand n (view_then t ts) h = (h.0, items_stand n ts h.1)

named_stand : (n : ℕ) (fs : ViewFields) → FieldsStand n fs → EntriesStand n (named_entries fs)
named_stand n no_fields h = tt
named_stand n (field_then name t fs) h = by (is_dollar name) (named_stand n fs h.1)
  where
    by : (b : Bool) → EntriesStand n (named_entries fs) → EntriesStand n (if b then named_entries fs else record { name = Some name; value = t } ∷ named_entries fs)
    by true more = more
    by false more = (h.0, more)

pub entries_stand : (n : ℕ) (v : ViewTree) → ViewStands n v → EntriesStand n (entries_in v)
entries_stand n (prim v) h = tt
entries_stand n (list ts) h = items_stand n ts h
entries_stand n (rec fs) h = named_stand n fs h
