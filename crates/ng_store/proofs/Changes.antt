-- An object that is changed in its place.
use Rattle.std.proofs.Common.{◌≡◌, ◌<◌, ℕ, zero, suc, List, [], ◌∷◌, length, get_or, ap, arith}
use Rattle.std.specs.Prelude.{Result, Ok, Err, OnErr}
use Rattle.std.proofs.Math.ListN.{set}
use Rattle.ng_base.specs.Objects.{Object}
use Rattle.ng_language.specs.Objects.{update_at}
use Rattle.ng_store.specs.ObjectOf.{object_of, objects_of}
use Rattle.ng_store.specs.declared.stored.Stored.{Stored}

pub objects_of-set : (xs : List Stored) (i : ℕ) (d x : Stored) (f : Object → Object) → i < length xs → object_of x ≡ f (object_of (get_or xs i d)) → objects_of (set xs i x) ≡ update_at (objects_of xs) i f
objects_of-set [] i d x f h e = absurd (omega arith)
objects_of-set (y ∷ ys) zero d x f h e = ap (λ o. o ∷ objects_of ys) e
objects_of-set (y ∷ ys) (suc i) d x f h e = ap (λ os. object_of y ∷ os) (objects_of-set ys i d x f (omega arith) e)

pub objects_of-set_same : (xs : List Stored) (i : ℕ) (d x : Stored) → i < length xs → object_of x ≡ object_of (get_or xs i d) → objects_of (set xs i x) ≡ objects_of xs
objects_of-set_same [] i d x h e = absurd (omega arith)
objects_of-set_same (y ∷ ys) zero d x h e = ap (λ o. o ∷ objects_of ys) e
objects_of-set_same (y ∷ ys) (suc i) d x h e = ap (λ os. object_of y ∷ os) (objects_of-set_same ys i d x (omega arith) e)

pub at_error : {T E : Type 0} (r : Result T E) (P : Type 0) → P → OnErr r P
at_error (Ok x) P p = tt
at_error (Err e) P p = p
