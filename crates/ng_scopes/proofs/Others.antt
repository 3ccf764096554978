-- A name that is set leaves every other object.
use Rattle.std.proofs.Common.{◌≡◌, ℕ, List, Result, Ok, Err, OnOk, OnErr, refl, sym, subst}
use Rattle.ng_base.specs.Objects.{Object}
use Rattle.ng_base.specs.declared.value.Value.{Value}
use Rattle.ng_language.specs.Objects.{with_property, set_name}
use Rattle.ng_scopes.specs.Others.{LeavesOthers}
use Rattle.ng_store.proofs.Kept.{other_object}

pub others-itself : (xs ys : List Object) (o : ℕ) → ys ≡ xs → LeavesOthers xs o ys
others-itself xs ys o e = subst (LeavesOthers xs o) (sym e) (record { others = λ q h. refl })

pub others-set : (xs ys : List Object) (o : ℕ) (name : List ℕ) (v : Value) → ys ≡ set_name xs o name v → LeavesOthers xs o ys
others-set xs ys o name v e = subst (LeavesOthers xs o) (sym e) (record { others = λ q h. other_object xs o q (with_property name v) h })

pub others-tried : {T E : Type 0} (r : Result T E) (xs ys : List Object) (o : ℕ) (name : List ℕ) (v : Value) → OnOk r (ys ≡ set_name xs o name v) → OnErr r (ys ≡ xs) → LeavesOthers xs o ys
others-tried (Ok t) xs ys o name v e f = others-set xs ys o name v e
others-tried (Err t) xs ys o name v e f = others-itself xs ys o f
