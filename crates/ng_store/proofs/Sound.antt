-- What holds of the objects of every store, kept by each change.
use Rattle.std.proofs.Common.{◌≡◌, ◌<◌, ◌≤◌, ◌+◌, ◌^◌, ℕ, zero, suc, Bool, true, false, List, [], ◌∷◌, ◌++◌, length, take, drop, Option, Some, None, refl, sym, ap, subst, ◌∙◌, arith, bytes_eq, if◌then◌else◌, true≢false, length-append, option_map}
use Rattle.std.proofs.lemmas.Slice.Eq.{bytes_eq-Decides}
use Rattle.std.specs.List.{AllByRecursion, IsDistinct}
use Rattle.std.specs.Map.{keys_of}
use Rattle.std.specs.Option.{IfSome}
use Rattle.indexmap.specs.IndexMap.{insert_entry}
use Rattle.ng_base.specs.Objects.{Object, StandsAmong}
use Rattle.ng_base.specs.declared.heap.ObjKind.{ObjKind}
use Rattle.ng_base.specs.declared.name.Oid.{Oid}
use Rattle.ng_base.specs.declared.value.Value.{Value}
use Rattle.ng_base.specs.declared.value.Value.TheVariants as value
use Rattle.ng_language.specs.Objects.{IsObjectAt, AreObjectsFrom, AreObjects, update_at, with_property, with_items, new_object}

abbrev pub Property : Type 0
Property = List ℕ × Value

pub all_through : {X : Type 0} (P Q : X → Type 0) → ((x : X) → P x → Q x) → (xs : List X) → AllByRecursion P xs → AllByRecursion Q xs
all_through P Q f [] a = tt
all_through P Q f (x ∷ xs) a = (f x a.0, all_through P Q f xs a.1)

pub all_append : {X : Type 0} (P : X → Type 0) (xs ys : List X) → AllByRecursion P xs → AllByRecursion P ys → AllByRecursion P (xs ++ ys)
all_append P [] ys a b = b
all_append P (x ∷ xs) ys a b = (a.0, all_append P xs ys a.1 b)

pub all_take : {X : Type 0} (P : X → Type 0) (n : ℕ) (xs : List X) → AllByRecursion P xs → AllByRecursion P (take n xs)
all_take P zero [] a = tt
all_take P zero (x ∷ xs) a = tt
all_take P (suc n) [] a = tt
all_take P (suc n) (x ∷ xs) a = (a.0, all_take P n xs a.1)

pub all_drop : {X : Type 0} (P : X → Type 0) (n : ℕ) (xs : List X) → AllByRecursion P xs → AllByRecursion P (drop n xs)
all_drop P zero [] a = tt
all_drop P zero (x ∷ xs) a = a
all_drop P (suc n) [] a = tt
all_drop P (suc n) (x ∷ xs) a = all_drop P n xs a.1

-- more objects stand
pub stands_more : (n m : ℕ) → n ≤ m → (v : Value) → StandsAmong n v → StandsAmong m v
stands_more n m h (value.Obj o) s = omega arith
stands_more n m h v s = s

pub is_object_more : (n m o : ℕ) (x : Object) → n ≤ m → IsObjectAt n o x → IsObjectAt m o x
is_object_more n m o x h a = record {
  earlier = a.earlier;
  few = a.few;
  items = all_through (StandsAmong n) (StandsAmong m) (stands_more n m h) x.items a.items;
  properties = all_through (λ (p : Property). StandsAmong n p.1) (λ (p : Property). StandsAmong m p.1) (λ p. stands_more n m h p.1) x.properties a.properties;
  distinct = a.distinct;
}

are_more : (n m o : ℕ) (xs : List Object) → n ≤ m → AreObjectsFrom n o xs → AreObjectsFrom m o xs
are_more n m o [] h a = tt
are_more n m o (x ∷ xs) h a = (is_object_more n m o x h a.0, are_more n m (suc o) xs h a.1)

are_behind : (n o : ℕ) (xs : List Object) (x : Object) → AreObjectsFrom n o xs → IsObjectAt n (o + length xs) x → AreObjectsFrom n o (xs ++ x ∷ [])
are_behind n o [] x a b = let e : o + 0 ≡ o = omega arith in (subst (λ k. IsObjectAt n k x) e b, tt)
are_behind n o (y ∷ ys) x a b =
    let e : o + length (y ∷ ys) ≡ suc o + length ys = omega arith in
    (a.0, are_behind n (suc o) ys x a.1 (subst (λ k. IsObjectAt n k x) e b))

pub from_behind : (base : ℕ) (objects : List Object) (x : Object) → AreObjectsFrom (base + length objects) base objects → IsObjectAt (base + length objects) (base + length objects) x → AreObjectsFrom (base + length (objects ++ x ∷ [])) base (objects ++ x ∷ [])
from_behind base objects x a b =
    let n = base + length objects in
    let m = base + length (objects ++ x ∷ []) in
    let more : n ≤ m = omega (arith, length-append objects (x ∷ [])) in
    are_behind m base objects x (are_more n m base objects more a) (is_object_more n m n x more b)

are_append : (n o : ℕ) (xs ys : List Object) → AreObjectsFrom n o xs → AreObjectsFrom n (o + length xs) ys → AreObjectsFrom n o (xs ++ ys)
are_append n o [] ys a b = let e : o + 0 ≡ o = omega arith in subst (λ k. AreObjectsFrom n k ys) e b
are_append n o (x ∷ xs) ys a b =
    let e : o + length (x ∷ xs) ≡ suc o + length xs = omega arith in
    (a.0, are_append n (suc o) xs ys a.1 (subst (λ k. AreObjectsFrom n k ys) e b))

-- more objects behind the others
pub sound_append : (objects made : List Object) → AreObjects objects → AreObjectsFrom (length objects + length made) (length objects) made → AreObjects (objects ++ made)
sound_append objects made a b =
    let n = length objects in
    let m = length objects + length made in
    let e : m ≡ length (objects ++ made) = omega (arith, length-append objects made) in
    let z : n ≡ 0 + n = omega arith in
    subst (λ k. AreObjectsFrom k 0 (objects ++ made)) e
    (are_append m 0 objects made (are_more n m 0 objects (omega arith) a) (subst (λ k. AreObjectsFrom m k made) z b))

-- a new object behind the others
pub sound_behind : (objects : List Object) (x : Object) → AreObjects objects → IsObjectAt (length objects) (length objects) x → AreObjects (objects ++ x ∷ [])
sound_behind objects x a b =
    let n = length objects in
    let m = length (objects ++ x ∷ []) in
    let more : n ≤ m = omega (arith, length-append objects (x ∷ [])) in
    let e : n ≡ 0 + n = omega arith in
    are_behind m 0 objects x (are_more n m 0 objects more a) (subst (λ k. IsObjectAt m k x) e (is_object_more n m n x more b))

pub is_new_object : (n : ℕ) (kind : ObjKind) (proto : Option ℕ) → IfSome proto (λ p. p < n) → IsObjectAt n n (new_object kind proto)
unfolding IsDistinct
is_new_object n kind proto h = record { earlier = h; few = omega arith; items = tt; properties = tt; distinct = tt }

-- one object is changed
are_updated : (n o i : ℕ) (f : Object → Object) → ((k : ℕ) (x : Object) → IsObjectAt n k x → IsObjectAt n k (f x)) → (xs : List Object) → AreObjectsFrom n o xs → AreObjectsFrom n o (update_at xs i f)
are_updated n o i f h [] a = tt
are_updated n o zero f h (x ∷ xs) a = (h o x a.0, a.1)
are_updated n o (suc i) f h (x ∷ xs) a = (a.0, are_updated n (suc o) i f h xs a.1)

pub length-update_at : (xs : List Object) (i : ℕ) (f : Object → Object) → length (update_at xs i f) ≡ length xs
length-update_at [] i f = refl
length-update_at (x ∷ xs) zero f = refl
length-update_at (x ∷ xs) (suc i) f = ap suc (length-update_at xs i f)

pub sound_updated : (objects : List Object) (i : ℕ) (f : Object → Object) → ((k : ℕ) (x : Object) → IsObjectAt (length objects) k x → IsObjectAt (length objects) k (f x)) → AreObjects objects → AreObjects (update_at objects i f)
sound_updated objects i f h a =
    subst (λ n. AreObjectsFrom n 0 (update_at objects i f)) (sym (length-update_at objects i f)) (are_updated (length objects) 0 i f h objects a)

-- a property is set
chosen_all : {X : Type 0} (P : X → Type 0) (b : Bool) (xs ys : List X) → AllByRecursion P xs → AllByRecursion P ys → AllByRecursion P (if b then xs else ys)
chosen_all P true xs ys a c = a
chosen_all P false xs ys a c = c

pub all_inserted : (n : ℕ) (es : List Property) (name : List ℕ) (v : Value) → AllByRecursion (λ (p : Property). StandsAmong n p.1) es → StandsAmong n v → AllByRecursion (λ (p : Property). StandsAmong n p.1) (insert_entry bytes_eq es name v)
all_inserted n [] name v a s = (s, tt)
all_inserted n (e ∷ es) name v a s =
    chosen_all (λ (p : Property). StandsAmong n p.1) (bytes_eq name e.0) ((e.0, v) ∷ es) (e ∷ insert_entry bytes_eq es name v) (s, a.1) (a.0, all_inserted n es name v a.1 s)

apart_inserted : (k : List ℕ) (es : List Property) (name : List ℕ) (v : Value) → AllByRecursion (λ y. bytes_eq k y ≡ false) (keys_of es) → bytes_eq k name ≡ false → AllByRecursion (λ y. bytes_eq k y ≡ false) (keys_of (insert_entry bytes_eq es name v))
apart_inserted k [] name v a s = (s, tt)
apart_inserted k (e ∷ es) name v a s = by (bytes_eq name e.0) (apart_inserted k es name v a.1 s)
  where
    by : (b : Bool) → AllByRecursion (λ y. bytes_eq k y ≡ false) (keys_of (insert_entry bytes_eq es name v)) → AllByRecursion (λ y. bytes_eq k y ≡ false) (keys_of (if b then (e.0, v) ∷ es else e ∷ insert_entry bytes_eq es name v))
    by true rest = a
    by false rest = (a.0, rest)

pub unequal : (x y : List ℕ) → bytes_eq x y ≡ false → bytes_eq y x ≡ false
unequal x y h = by (bytes_eq y x) refl
  where
    by : (b : Bool) → bytes_eq y x ≡ b → bytes_eq y x ≡ false
    by true e = absurd (true≢false (sym ((bytes_eq-Decides x y).1 (sym ((bytes_eq-Decides y x).0 e))) ∙ h))
    by false e = e

pub distinct_inserted : (es : List Property) (name : List ℕ) (v : Value) → IsDistinct bytes_eq (keys_of es) → IsDistinct bytes_eq (keys_of (insert_entry bytes_eq es name v))
unfolding IsDistinct
distinct_inserted [] name v d = (tt, tt)
distinct_inserted (e ∷ es) name v d = by (bytes_eq name e.0) refl (distinct_inserted es name v d.1)
  where
    by : (b : Bool) → bytes_eq name e.0 ≡ b → IsDistinct bytes_eq (keys_of (insert_entry bytes_eq es name v)) → IsDistinct bytes_eq (keys_of (if b then (e.0, v) ∷ es else e ∷ insert_entry bytes_eq es name v))
    by true h rest = d
    by false h rest = (apart_inserted e.0 es name v d.0 (unequal name e.0 h), rest)

pub is_with_property : (n o : ℕ) (name : List ℕ) (v : Value) (x : Object) → StandsAmong n v → IsObjectAt n o x → IsObjectAt n o (with_property name v x)
is_with_property n o name v x s a = record {
  earlier = a.earlier;
  few = a.few;
  items = a.items;
  properties = all_inserted n x.properties name v a.properties s;
  distinct = distinct_inserted x.properties name v a.distinct;
}

pub is_with_items : (n o : ℕ) (items : List Value) (x : Object) → length items < 2 ^ 32 → AllByRecursion (StandsAmong n) items → IsObjectAt n o x → IsObjectAt n o (with_items items x)
is_with_items n o items x few s a = record { earlier = a.earlier; few = few; items = s; properties = a.properties; distinct = a.distinct }

pub proto_stands : (n : ℕ) (proto : Option Oid) → IfSome proto (λ p. p.0 < n) → IfSome (option_map (λ (p : Oid). p.0) proto) (λ p. p < n)
proto_stands n None h = tt
proto_stands n (Some p) h = h
