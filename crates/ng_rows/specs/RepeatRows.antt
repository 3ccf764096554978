-- The rows of a repeat: its items, their track keys, and the rows that are kept (API: ngRepeat).
use Rattle.std.specs.Prelude.{ℕ, pos, ◌+◌, ◌==◌, ◌%◌, ◌||◌, ◌&&◌, Bool, false, not, List, [], ◌∷◌, ◌++◌, map, Option, None, Some, option_map, slice_get, Result, Ok, Err, codes}
use Rattle.std.specs.List.{flat_map}
use Rattle.ng_core.specs.Keeping.{stores}
use Rattle.ng_core.specs.State as act
use Rattle.ng_core.specs.State.{Run, ◌>>=◌}
use Rattle.ng_base.specs.declared.fault.Fault.{Fault}
use Rattle.ng_base.specs.declared.fault.Fault.TheVariants as faults
use Rattle.ng_base.specs.declared.value.Value.{Value}
use Rattle.ng_base.specs.declared.value.Value.TheVariants as value
use Rattle.ng_blocks.specs.SameKeys.{same_key}
use Rattle.ng_blocks.specs.declared.keys.TrackKey.{TrackKey}
use Rattle.ng_blocks.specs.declared.keys.TrackKey.TheVariants as keys
use Rattle.ng_blocks.specs.declared.plans.Plan.{Plan}
use Rattle.ng_blocks.specs.declared.plans.PlanFault.{PlanFault}
use Rattle.ng_blocks.specs.declared.plans.PlanFault.TheVariants as plans
use Rattle.ng_drawing.specs.Roles.{Entry, Role, a_body, a_row, a_named, same_entry}
use Rattle.ng_drawing.specs.Template.{Repeated}
use Rattle.ng_rows.specs.Tracking.{Item, key_value, key_local, index_name}
use Rattle.ng_instances.specs.Instances.{Body}
use Rattle.ng_members.specs.Leaves.{Local}
use Rattle.ng_write.specs.Making.{value_in}

-- a fresh entry becomes a new object
abbrev pub item_made : Entry → act.State → Run Item
item_made e c = stores e.value c >>= λ t d. (d, Ok (record { entry = e; value = value_in t }))

-- and so do all, in the order of the entries, after items that are made
abbrev pub items_made : List Entry → List Item → act.State → Run (List Item)
items_made [] done c = (c, Ok done)
items_made (e ∷ es) done c = item_made e c >>= λ x d. items_made es (done ++ x ∷ []) d

-- the key of a row that stands
abbrev pub key_of : Role → TrackKey
key_of a_body = keys.Place 0
key_of (a_row k e) = k
key_of (a_named w) = keys.Place 0

abbrev pub keys_of : List Body → List TrackKey
keys_of bs = map (λ (b : Body). key_of b.role) bs

-- a row that an entry calls for: the item, its track key, and the path of the row that it comes from, where one stands
pub record Row : Type 0 where
  pub item : Item
  pub key : TrackKey
  pub from : Option (List ℕ)

abbrev pub path_from : List Body → Option ℕ → Option (List ℕ)
path_from bs None = None
path_from bs (Some i) = option_map (λ (b : Body). b.path) (slice_get bs i)

abbrev pub rows_from : List Body → List Item → List TrackKey → List (Option ℕ) → List Row
rows_from bs (x ∷ xs) (k ∷ ks) (p ∷ ps) = record { item = x; key = k; from = path_from bs p } ∷ rows_from bs xs ks ps
rows_from bs xs ks ps = []

abbrev pub role_for : Row → Role
role_for r = a_row r.key r.item.entry

-- whether a role is that of the row of an entry under its key
abbrev pub same_row : TrackKey → Entry → Role → Bool
same_row k e a_body = false
same_row k e (a_row l f) = same_key k l && same_entry e f
same_row k e (a_named w) = false

-- the rows that are kept, in the order of their entries
abbrev pub kept_from : Option (List ℕ) → Role → List Body
kept_from None r = []
kept_from (Some p) r = record { path = p; role = r } ∷ []

abbrev pub kept_rows : List Row → List Body
kept_rows rs = flat_map (λ (r : Row). kept_from r.from (role_for r)) rs

-- what a row's scope is told: its item under the name of that, its key, and the place of its entry among so many
abbrev pub place_names : ℕ → ℕ → List Local
place_names count i =
    (index_name, value.Int (pos i))
    ∷ (codes "$first", value.Bool (i == 0))
    ∷ (codes "$middle", value.Bool (not (i == 0 || i + 1 == count)))
    ∷ (codes "$last", value.Bool (i + 1 == count))
    ∷ (codes "$even", value.Bool (i % 2 == 0))
    ∷ (codes "$odd", value.Bool (not (i % 2 == 0)))
    ∷ []

abbrev pub row_names : Repeated → ℕ → ℕ → Item → List Local
row_names r count i x = (r.name, x.value) ∷ (key_local r.key (key_value i x.entry.name) ++ place_names count i)

-- the names alone, which are the same for all rows of a repeat: those of the item and of its key, and those of the place of its entry
abbrev pub key_words : Option (List ℕ) → List (List ℕ)
key_words None = []
key_words (Some k) = k ∷ []

abbrev pub own_words : Repeated → List (List ℕ)
own_words r = r.name ∷ key_words r.key

abbrev pub place_words : List (List ℕ)
place_words = index_name ∷ codes "$first" ∷ codes "$middle" ∷ codes "$last" ∷ codes "$even" ∷ codes "$odd" ∷ []

abbrev pub row_words : Repeated → List (List ℕ)
row_words r = own_words r ++ place_words

-- the values alone
abbrev pub values_in : List Local → List Value
values_in ls = map (λ (l : Local). l.1) ls

abbrev pub plan_fault : PlanFault → Fault
plan_fault plans.Dupes = faults.Dupes
plan_fault (plans.Memory m) = faults.Memory m

abbrev pub as_fault : Result Plan PlanFault → Result Plan Fault
as_fault (Ok p) = Ok p
as_fault (Err e) = Err (plan_fault e)
