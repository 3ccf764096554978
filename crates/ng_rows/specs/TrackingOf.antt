-- What the entries of a repeat with their values in the code stand for.
use Rattle.std.specs.Prelude.{ℕ, ◌≡◌, List, ◌∷◌, map}
use Rattle.std.specs.List.{AllByRecursion}
use Rattle.ng_base.specs.Objects.{StandsAmong}
use Rattle.ng_drawing.specs.Roles.{Entry}
use Rattle.ng_drawing.specs.RolesOf.{entry_of}
use Rattle.ng_language.specs.Views.{ViewStands}
use Rattle.ng_base.specs.declared.value.Value.TheVariants.{Undefined}
use Rattle.ng_drawing.specs.Template.{Repeated}
use Rattle.ng_rows.specs.Tracking.{Item, index_name, key_local}
use Rattle.ng_members.specs.Leaves.{Local}
use Rattle.ng_rows.specs.declared.tracking.Item as code

abbrev pub item_of : code.Item → Item
item_of x = record { entry = entry_of x.entry; value = x.value }

abbrev pub items_of : List code.Item → List Item
items_of xs = map item_of xs

-- the objects that entries and values name are among so many
abbrev pub EntriesStand : ℕ → List Entry → Type 0
EntriesStand count es = AllByRecursion (λ (e : Entry). ViewStands count e.value) es

abbrev pub ItemsStand : ℕ → List Item → Type 0
ItemsStand count xs = AllByRecursion (λ (x : Item). StandsAmong count x.value) xs

-- the names of locals
abbrev pub local_names : List Local → List (List ℕ)
local_names ls = map (λ (l : Local). l.0) ls

-- locals have the names of those of a track expression, whatever their values are
abbrev pub AreLocals : Repeated → List Local → Type 0
AreLocals r ls = local_names ls ≡ index_name ∷ r.name ∷ local_names (key_local r.key Undefined)
