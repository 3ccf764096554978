-- What is as it was after a write, and when a value reads as a view.
use Rattle.std.specs.Prelude.{ℕ, ◌≡◌, ◌<◌, ◌≤◌, List, [], ◌∷◌, length}
use Rattle.ng_base.specs.Objects.{Object, object_at}
use Rattle.ng_base.specs.Views.{ViewTree, ViewTrees, ViewFields, prim, list, rec, no_views, view_then, no_fields, field_then}
use Rattle.ng_base.specs.declared.name.Oid.{Oid}
use Rattle.ng_base.specs.declared.value.Value.{Value}
use Rattle.ng_base.specs.declared.value.Value.TheVariants as value
use Rattle.ng_write.specs.Storing.{array_with, plain_with, entered}

-- as many objects stand, and all but one are as they were
pub record OnlyAt (o : ℕ) (before after : List Object) : Type 0 where
  pub as_many : length after ≡ length before
  pub others : (q : ℕ) → ¬ (q ≡ o) → object_at after q ≡ object_at before q

-- the objects that stood are as they were, and others may stand behind them
pub record Extends (before after : List Object) : Type 0 where
  pub no_fewer : length before ≤ length after
  pub unchanged : (q : ℕ) → q < length before → object_at after q ≡ object_at before q

-- a value reads as a view: as itself, as an array whose items read as those of a list, in order, or as a plain object
-- whose named values read as those of a record
abbrev mutual
  pub ReadsAs : List Object → Value → ViewTree → Type 0
  ReadsAs objects v (prim w) = v ≡ w
  ReadsAs objects v (list ts) =
      (o : Oid) × (items : List Value) × (v ≡ value.Obj o) × (o.0 < length objects) × (object_at objects o.0 ≡ array_with items) × ItemsRead objects items ts
  ReadsAs objects v (rec fs) =
      (o : Oid) × (properties : List (List ℕ × Value)) × (v ≡ value.Obj o) × (o.0 < length objects) × (object_at objects o.0 ≡ plain_with (entered [] properties)) × FieldsRead objects properties fs

  pub ItemsRead : List Object → List Value → ViewTrees → Type 0
  ItemsRead objects [] no_views = Unit {0}
  ItemsRead objects [] (view_then t ts) = ⊥
  ItemsRead objects (v ∷ vs) no_views = ⊥
  ItemsRead objects (v ∷ vs) (view_then t ts) = ReadsAs objects v t × ItemsRead objects vs ts

  pub FieldsRead : List Object → List (List ℕ × Value) → ViewFields → Type 0
  FieldsRead objects [] no_fields = Unit {0}
  FieldsRead objects [] (field_then name t fs) = ⊥
  FieldsRead objects (p ∷ ps) no_fields = ⊥
  FieldsRead objects (p ∷ ps) (field_then name t fs) = (p.0 ≡ name) × ReadsAs objects p.1 t × FieldsRead objects ps fs
