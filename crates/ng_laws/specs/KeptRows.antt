-- What a repeat keeps as it fires (API: ngRepeat, "Tracking and Duplicates").
use Rattle.std.specs.Prelude.{ℕ, ◌≡◌, ◌<◌, ◌≤◌, ◌++◌, Bool, true, List, [], ◌∷◌, length, Some, slice_get, Result, Ok, Err}
use Rattle.std.specs.List.{AllByRecursion}
use Rattle.ng_base.specs.Views.{ViewTree}
use Rattle.ng_base.specs.declared.fault.Fault.{Fault}
use Rattle.ng_behaviour.specs.Scopes.{IsScopeTree, Scope, object_at, path_at}
use Rattle.ng_blocks.specs.Plans.{is_among}
use Rattle.ng_blocks.specs.declared.keys.TrackKey.{TrackKey}
use Rattle.ng_core.specs.State as act
use Rattle.ng_core.specs.State.{Run}
use Rattle.ng_drawing.specs.Roles.{entries_in}
use Rattle.ng_drawing.specs.Template.{Repeated}
use Rattle.ng_drawing.specs.declared.origin.Origin.{Origin}
use Rattle.ng_fire.specs.Blocks.{Firing}
use Rattle.ng_rows.specs.RepeatRows.{items_made, key_of}
use Rattle.ng_fire.specs.Repeats.{repeat_fired, rows_at}
use Rattle.ng_rows.specs.Tracking.{Item, track_keys}
use Rattle.ng_instances.specs.Instances.{Body, Linked, linked_at}
use Rattle.ng_link.specs.Standing.{body_count}
use Rattle.ng_link.specs.State.{State}

-- the track keys that a value calls for, once its fresh entries are objects
abbrev pub keys_for : Repeated → ℕ → Result (List Item) Fault → act.State → Result (List TrackKey) Fault
keys_for w scope (Err e) c = Err e
keys_for w scope (Ok xs) c = track_keys c.objects (object_at c.scopes scope) w 0 [] xs

abbrev pub keys_called : Repeated → ℕ → ViewTree → act.State → Result (List TrackKey) Fault
keys_called w scope v c = by (items_made (entries_in v) [] c)
  where
    by : Run (List Item) → Result (List TrackKey) Fault
    by r = keys_for w scope r.1 r.0

-- whether a row of a key is called for; a fire that faults before that is known changes no row
abbrev pub is_called : Result (List TrackKey) Fault → TrackKey → Bool
is_called (Err e) k = true
is_called (Ok ks) k = is_among ks k

-- an instance stands on a scope of its path
abbrev pub IsOnScope : List Scope → List ℕ × Linked → Type 0
IsOnScope scopes e = (e.1.page.scope < length scopes) × (path_at scopes e.1.page.scope ≡ e.0)

-- the scopes are a tree, and each instance stands on the scope of its path
pub record StandsOnScopes (s : State) : Type 0 where
  pub tree : IsScopeTree s.core.scopes
  pub scopes : AllByRecursion (IsOnScope s.core.scopes) s.instances

-- a row is on the path of a child of a scope in an instance
abbrev pub IsRowIn : List ℕ → List ℕ → Body → Type 0
IsRowIn holder between b = (n : ℕ) × (b.path ≡ holder ++ (between ++ n ∷ []))

-- rows on children of one scope, each on a path of its own
pub record AreRowsOf (holder between : List ℕ) (bs : List Body) : Type 0 where
  pub inside : AllByRecursion (IsRowIn holder between) bs
  pub once : (q : List ℕ) → body_count q bs ≤ 1

-- A row whose track key is called for stays linked as it is: it keeps its scope and its nodes, and so do the bodies in it. The scope round the outlet is
-- there, and so are those outside what its slots are given.
abbrev pub KeptRowsStay : Type 0
KeptRowsStay = (holder between : List ℕ) (scope : ℕ) (outsides : List ℕ) (v : ViewTree) (o : ℕ) (which : Origin) (w : Repeated) (g : Firing) (i : ℕ) (b : Body) (l : Linked)
    → StandsOnScopes g.state → scope < length g.state.core.scopes → AllByRecursion (λ (n : ℕ). n < length g.state.core.scopes) outsides
    → AreRowsOf holder between (rows_at holder o g.state.instances) → slice_get (rows_at holder o g.state.instances) i ≡ Some b → is_called (keys_called w scope v g.state.core) (key_of b.role) ≡ true
    → linked_at b.path g.state.instances ≡ Some l → linked_at b.path (repeat_fired holder scope outsides v o which w g).state.instances ≡ Some l
