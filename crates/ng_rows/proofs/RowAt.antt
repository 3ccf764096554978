-- The row at a place.
use Rattle.std.proofs.Common.{◌≡◌, ◌∙◌, ◌<◌, ◌≤◌, ℕ, List, Bor, Option, get_or, length, map, slice_get, option_map, Some, None, refl, ap}
use Rattle.std.specs.Slice.{IsItemAt}
use Rattle.std.proofs.lemmas.Option.{slice_get-map, slice_get_past, slice_get_read}
use Rattle.ng_instances.specs.InstanceOf.{body_of}
use Rattle.ng_instances.specs.Instances.{Body}
use Rattle.ng_instances.specs.declared.instances.Body as code
use Rattle.ng_parts.proofs.Lookups.{lookup_seen}
use Rattle.ng_rows.specs.RepeatRows.{path_from}
use Rattle.ng_rows.specs.RepeatsOf.{path_of}

-- ---- the row at a place

pub row_at : (bs : List code.Body) (i : ℕ) (b : code.Body) → i < length bs → b ≡ get_or bs i b → slice_get (map body_of bs) i ≡ Some (body_of b)
row_at bs i b l e = slice_get-map body_of bs i ∙ ap (option_map body_of) (slice_get_read bs (length bs) i b refl l e)

pub no_row_at : (bs : List code.Body) (i : ℕ) → length bs ≤ i → slice_get (map body_of bs) i ≡ None
no_row_at bs i le = slice_get-map body_of bs i ∙ ap (option_map body_of) (slice_get_past bs i le)

-- the path of the row at a place
pub path_at : (bs : List code.Body) (i : ℕ) (b : Option (Bor code.Body)) → IsItemAt bs i b → path_of b ≡ path_from (map body_of bs) (Some i)
path_at bs i None at = ap (option_map (λ (x : Body). x.path)) (lookup_seen body_of bs i None at)
path_at bs i (Some b) at = ap (option_map (λ (x : Body). x.path)) (lookup_seen body_of bs i (Some b) at)
