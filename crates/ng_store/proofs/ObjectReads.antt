-- What the object at a place has.
use Rattle.std.proofs.Common.{◌≡◌, ◌<◌, ◌+◌, ℕ, zero, suc, List, [], ◌∷◌, ◌++◌, length, get_or, sym, ap, ◌∙◌, arith, refl, subst, add-zero}
use Rattle.ng_base.specs.Objects.{Object, object_at}
use Rattle.ng_base.specs.declared.value.Value.{Value}
use Rattle.ng_language.specs.Objects.{IsObjectAt, AreObjectsFrom, AreObjects, with_items, set_items, items_at}
use Rattle.std.proofs.Math.ListN.{set}
use Rattle.ng_store.proofs.Changes.{objects_of-set}
use Rattle.ng_store.specs.ObjectOf.{object_of, objects_of}
use Rattle.ng_store.specs.declared.stored.Stored.{Stored}

pub length-objects_of : (xs : List Stored) → length (objects_of xs) ≡ length xs
length-objects_of [] = refl
length-objects_of (x ∷ xs) = ap suc (length-objects_of xs)

pub stored_at : (xs : List Stored) (i : ℕ) (s : Stored) → i < length xs → s ≡ get_or xs i s → object_at (objects_of xs) i ≡ object_of s
stored_at [] i s h e = absurd (omega arith)
stored_at (x ∷ xs) zero s h e = ap object_of (sym e)
stored_at (x ∷ xs) (suc i) s h e = stored_at xs i s (omega arith) e

pub are_at : (count o i : ℕ) (xs : List Object) → i < length xs → AreObjectsFrom count o xs → IsObjectAt count (o + i) (object_at xs i)
are_at count o i [] h a = absurd (omega arith)
are_at count o zero (x ∷ xs) h a = rw add-zero a.0
are_at count o (suc i) (x ∷ xs) h a = let e : o + suc i ≡ suc o + i = omega arith in rw e (are_at count (suc o) i xs (omega arith) a.1)

-- the object at a place of a store
pub object_is : (objects : List Object) (o : ℕ) → o < length objects → AreObjects objects → IsObjectAt (length objects) o (object_at objects o)
object_is objects o h a = let e : 0 + o ≡ o = omega arith in subst (λ n. IsObjectAt (length objects) n (object_at objects o)) e (are_at (length objects) 0 o objects h a)

pub objects_of-push : (xs : List Stored) (x : Stored) → objects_of (xs ++ x ∷ []) ≡ objects_of xs ++ object_of x ∷ []
objects_of-push [] x = refl
objects_of-push (y ∷ ys) x = ap (λ os. object_of y ∷ os) (objects_of-push ys x)

-- an object whose items were changed in its place
pub items_changed : (xs : List Stored) (i : ℕ) (s new : Stored) (f : List Value → List Value) → i < length xs → s ≡ get_or xs i s → object_of new ≡ with_items (f s.items.items) (object_of s) → objects_of (set xs i new) ≡ set_items (objects_of xs) i (f (items_at (objects_of xs) i))
items_changed xs i s new f h e n =
    let at : s.items.items ≡ items_at (objects_of xs) i = ap (λ x. x.items) (sym (stored_at xs i s h e)) in
    objects_of-set xs i s new (with_items (f (items_at (objects_of xs) i))) h
    (n ∙ (ap (λ vs. with_items (f vs) (object_of s)) at ∙ ap (λ x. with_items (f (items_at (objects_of xs) i)) (object_of x)) e))
