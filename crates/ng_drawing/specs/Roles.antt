-- What a body stands for: nothing but itself; or an entry of a collection, by which a repeat knows its rows (API: ngRepeat); or the template
-- of a name (API: ngInclude).
use Rattle.std.specs.Prelude.{ℕ, ◌&&◌, Bool, true, false, List, [], ◌∷◌, Option, None, Some, if◌then◌else◌}
use Rattle.std.specs.Str.{bytes_eq}
use Rattle.ng_base.specs.Views.{ViewTree, ViewTrees, ViewFields, prim, list, rec, no_views, view_then, no_fields, field_then}
use Rattle.ng_blocks.specs.declared.keys.TrackKey.{TrackKey}
use Rattle.ng_language.specs.Snapshots.{same_view}
use Rattle.ng_language.specs.Unfolding.{is_dollar}

-- an entry of a collection: its name, where it is a named value of an object, and what a snapshot holds of it
pub record Entry : Type 0 where
  pub name : Option (List ℕ)
  pub value : ViewTree

-- a body alone, or the row of an entry, which is known by its track key, or a body with the template of a name in it
pub data Role : Type 0 where
  a_body : Role
  a_row : TrackKey → Entry → Role
  a_named : List ℕ → Role

abbrev pub item_entries : ViewTrees → List Entry
item_entries no_views = []
item_entries (view_then t ts) = record { name = None; value = t } ∷ item_entries ts

-- a name that begins with `$` has no row
abbrev pub named_entries : ViewFields → List Entry
named_entries no_fields = []
named_entries (field_then name t fs) = if is_dollar name then named_entries fs else record { name = Some name; value = t } ∷ named_entries fs

-- The entries of a collection, of which a snapshot is kept: the items of an array, or the named values of an object in the order of its
-- keys. All else has none.
abbrev pub entries_in : ViewTree → List Entry
entries_in (prim v) = []
entries_in (list ts) = item_entries ts
entries_in (rec fs) = named_entries fs

abbrev pub entries_kept : Option ViewTree → List Entry
entries_kept None = []
entries_kept (Some t) = entries_in t

abbrev pub same_name : Option (List ℕ) → Option (List ℕ) → Bool
same_name None None = true
same_name (Some a) (Some b) = bytes_eq a b
same_name a b = false

abbrev pub same_entry : Entry → Entry → Bool
same_entry e f = same_name e.name f.name && same_view e.value f.value

abbrev pub is_row_of : Entry → Role → Bool
is_row_of e a_body = false
is_row_of e (a_row k f) = same_entry e f
is_row_of e (a_named w) = false

-- whether bodies are the rows of these entries, in their order
abbrev pub are_rows : List Entry → List Role → Bool
are_rows [] [] = true
are_rows (e ∷ es) (r ∷ rs) = is_row_of e r && are_rows es rs
are_rows es rs = false

-- whether there is one body, with the template of a name in it
abbrev pub is_named_so : List ℕ → Role → Bool
is_named_so w a_body = false
is_named_so w (a_row k f) = false
is_named_so w (a_named v) = bytes_eq v w

abbrev pub is_one_named : List ℕ → List Role → Bool
is_one_named w [] = false
is_one_named w (r ∷ []) = is_named_so w r
is_one_named w (r ∷ s ∷ rs) = false

-- whether there is a body
abbrev pub has_roles : List Role → Bool
has_roles [] = false
has_roles (r ∷ rs) = true
