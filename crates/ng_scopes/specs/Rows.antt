-- Scopes as rows, and the index of the live ones by path.
use Rattle.std.specs.Prelude.{ℕ, ◌<◌, ◌≡◌, ◌-◌, ◌^◌, List, length, map, take}
use Rattle.std.specs.BTreeMap.{BTreeMap, get}
use Rattle.ng_base.specs.Order.{path_cmp}
use Rattle.ng_behaviour.specs.Scopes.{Scope, object_at, live_scope, IsScopeTree}
use Rattle.ng_scopes.specs.declared.rows.Row.{Row}

abbrev pub scope_of : Row → Scope
scope_of r = record { path = r.path; parent = r.parent; object = r.object; live = r.live; children = r.children.items }

abbrev pub tree_of : List Row → List Scope
tree_of = map scope_of

-- a scope without its last child
abbrev pub losing : Scope → Scope
losing x = record { path = x.path; parent = x.parent; object = x.object; live = x.live; children = take (length x.children - 1) x.children }

-- a path leads to the live scope that it has
abbrev pub IsIndex : BTreeMap (List ℕ) ℕ → List Scope → Type 0
IsIndex m t = (p : List ℕ) → get path_cmp m p ≡ live_scope t p

-- an object that is later made is a later scope's
abbrev pub Rises : List Scope → Type 0
Rises t = (s r : ℕ) → s < r → r < length t → object_at t s < object_at t r

pub record IsSound (t : List Scope) (m : BTreeMap (List ℕ) ℕ) : Type 0 where
  pub tree : IsScopeTree t
  pub few : length t < 2 ^ 32
  pub rises : Rises t
  pub index : IsIndex m t
