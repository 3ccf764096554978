-- What is stored of a view and then of those behind it.
use Rattle.std.proofs.Common.{◌≡◌, ℕ, List, [], ◌∷◌, ◌++◌, ap}
use Rattle.std.specs.Prelude.{Ok}
use Rattle.ng_base.specs.Objects.{Object}
use Rattle.ng_base.specs.Views.{ViewTree, ViewTrees, ViewFields, view_then, field_then}
use Rattle.ng_base.specs.declared.value.Value.{Value}
use Rattle.ng_write.specs.Storing.{stored, stored_views, stored_fields}
use Rattle.ng_write.specs.Written.{Written, ◌>>◌}

pub next_view : (objects now : List Object) (done : List Value) (t : ViewTree) (ts : ViewTrees) (v : Value) →
    stored objects t ≡ (now, Ok v) → stored_views objects done (view_then t ts) ≡ stored_views now (done ++ v ∷ []) ts
next_view objects now done t ts v e = ap (λ (w : Written Value). w >> λ u os. stored_views os (done ++ u ∷ []) ts) e

pub next_field : (objects now : List Object) (done : List (List ℕ × Value)) (name : List ℕ) (t : ViewTree) (fs : ViewFields) (v : Value) →
    stored objects t ≡ (now, Ok v) → stored_fields objects done (field_then name t fs) ≡ stored_fields now (done ++ (name, v) ∷ []) fs
next_field objects now done name t fs v e = ap (λ (w : Written Value). w >> λ u os. stored_fields os (done ++ (name, u) ∷ []) fs) e
