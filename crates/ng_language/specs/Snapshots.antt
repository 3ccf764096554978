-- Snapshots: what a watcher keeps of a value, and when two of them differ (guide: Scopes).
use Rattle.std.specs.Prelude.{ℕ, Bool, true, false, not, List, Result, if◌then◌else◌}
use Rattle.std.specs.Str.{bytes_eq}
use Rattle.ng_base.specs.Objects.{Object}
use Rattle.ng_base.specs.Views.{ViewTree, ViewTrees, ViewFields, prim, list, rec, no_views, view_then, no_fields, field_then}
use Rattle.ng_base.specs.declared.fault.Fault.{Fault}
use Rattle.ng_language.specs.Operators.{same}
use Rattle.ng_language.specs.Unfolding.{unfolded}
use Rattle.ng_language.specs.declared.snapshots.SnapKind.{SnapKind}
use Rattle.ng_language.specs.declared.snapshots.SnapKind.TheVariants as snaps
use Rattle.ng_language.specs.declared.unfolding.Mode.{Mode}
use Rattle.ng_language.specs.declared.unfolding.Mode.TheVariants as modes

abbrev pub mode_of : SnapKind → Mode
mode_of snaps.Reference = modes.Reference
mode_of snaps.Collection = modes.Collection
mode_of snaps.Deep = modes.Deep

-- A snapshot is a view without what its kind leaves out. A deep one has its names in the order of their bytes, as a map.
abbrev pub snapshot : SnapKind → List Object → ViewTree → Result ViewTree Fault
snapshot kind objects t = unfolded (mode_of kind) objects t

-- NaN is the same as NaN
abbrev mutual
  pub same_view : ViewTree → ViewTree → Bool
  same_view (prim v) (prim w) = same v w
  same_view (list ts) (list us) = same_views ts us
  same_view (rec fs) (rec gs) = same_fields fs gs
  same_view t u = false

  pub same_views : ViewTrees → ViewTrees → Bool
  same_views no_views no_views = true
  same_views (view_then t ts) (view_then u us) = if same_view t u then same_views ts us else false
  same_views ts us = false

  pub same_fields : ViewFields → ViewFields → Bool
  same_fields no_fields no_fields = true
  same_fields (field_then name t fs) (field_then other u gs) = if bytes_eq name other then (if same_view t u then same_fields fs gs else false) else false
  same_fields fs gs = false

abbrev pub differs : ViewTree → ViewTree → Bool
differs t u = not (same_view t u)
