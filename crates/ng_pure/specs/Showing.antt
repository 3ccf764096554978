-- When a value shows what evaluation gives, where some of the objects stood before and the others were made on the way.
use Rattle.std.specs.Prelude.{ℕ, ◌≡◌, ◌<◌, ◌≤◌, List, [], ◌∷◌, length, bytes_eq}
use Rattle.std.specs.List.{IsDistinct}
use Rattle.std.specs.Map.{keys_of}
use Rattle.ng_base.specs.Objects.{Object, object_at, StandsAmong}
use Rattle.ng_base.specs.Views.{ViewTree, ViewTrees, ViewFields, prim, list, rec, no_views, view_then, no_fields, field_then}
use Rattle.ng_base.specs.declared.name.Oid.{Oid}
use Rattle.ng_base.specs.declared.value.Value.{Value}
use Rattle.ng_base.specs.declared.value.Value.TheVariants as value
use Rattle.ng_write.specs.Storing.{array_with, plain_with}

-- A value shows a view: as itself, where it names none of the objects that were made; as an array that was made, whose items
-- show those of a list, in order; or as a plain object that was made, whose named values show those of a record, in order.
-- As many objects stood before, and those that were made for the view stand from a place on.
abbrev mutual
  pub Shows : ℕ → ℕ → List Object → Value → ViewTree → Type 0
  Shows before from objects v (prim w) = (v ≡ w) × StandsAmong before w
  Shows before from objects v (list ts) =
      (o : Oid) × (items : List Value) × (v ≡ value.Obj o) × (from ≤ o.0) × (o.0 < length objects) × (object_at objects o.0 ≡ array_with items)
      × ItemsShow before from objects items ts
  Shows before from objects v (rec fs) =
      (o : Oid) × (properties : List (List ℕ × Value)) × (v ≡ value.Obj o) × (from ≤ o.0) × (o.0 < length objects) × (object_at objects o.0 ≡ plain_with properties)
      × IsDistinct bytes_eq (keys_of properties) × NamesShow before from objects properties fs

  pub ItemsShow : ℕ → ℕ → List Object → List Value → ViewTrees → Type 0
  ItemsShow before from objects [] no_views = Unit {0}
  ItemsShow before from objects [] (view_then t ts) = ⊥
  ItemsShow before from objects (v ∷ vs) no_views = ⊥
  ItemsShow before from objects (v ∷ vs) (view_then t ts) = Shows before from objects v t × ItemsShow before from objects vs ts

  pub NamesShow : ℕ → ℕ → List Object → List (List ℕ × Value) → ViewFields → Type 0
  NamesShow before from objects [] no_fields = Unit {0}
  NamesShow before from objects [] (field_then name t fs) = ⊥
  NamesShow before from objects (p ∷ ps) no_fields = ⊥
  NamesShow before from objects (p ∷ ps) (field_then name t fs) = (p.0 ≡ name) × Shows before from objects p.1 t × NamesShow before from objects ps fs
