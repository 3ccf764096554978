-- The items of arrays and fresh lists, one by one.
use Rattle.std.proofs.Common.{◌≡◌, ◌<◌, ◌≤◌, ◌+◌, ◌-◌, ℕ, zero, suc, List, [], ◌∷◌, ◌++◌, map, take, drop, length, slice_get, Some, refl, ap, arith, add-one}
use Rattle.std.specs.Prelude.{Ok, Err, true, false}
use Rattle.ng_base.specs.Objects.{Object}
use Rattle.ng_base.specs.declared.fault.Fault.{Fault}
use Rattle.ng_base.specs.Views.{ViewTree, prim}
use Rattle.ng_base.specs.ViewOf.{view_of}
use Rattle.ng_base.specs.declared.view.View.{View}
use Rattle.ng_base.specs.declared.value.Value.{Value}
use Rattle.ng_language.specs.Unfolding.{prims}
use Rattle.ng_language.specs.Operators.{strict_eq}
use Rattle.ng_members.specs.Members.{view_or_undefined}
use Rattle.ng_members.specs.Methods.{place_of, part_text, joined_behind}

pub length-prims : (vs : List Value) → length (prims vs) ≡ length vs
length-prims [] = refl
length-prims (v ∷ vs) = ap suc (length-prims vs)

pub get-prims : (vs : List Value) (i : ℕ) (v : Value) → slice_get vs i ≡ Some v → slice_get (prims vs) i ≡ Some (prim v)
get-prims [] i v h = absurd (cc)
get-prims (x ∷ xs) zero v h = let e : x ≡ v = cc in ap (λ y. Some (prim y)) e
get-prims (x ∷ xs) (suc i) v h = get-prims xs i v h

pub length-views : (vs : List View) → length (map view_of vs) ≡ length vs
length-views [] = refl
length-views (v ∷ vs) = ap suc (length-views vs)

-- the item at a place stands in front of what is behind it
pub at_place : (ts : List ViewTree) (i : ℕ) → i < length ts → drop i ts ≡ view_or_undefined (slice_get ts i) ∷ drop (suc i) ts
at_place [] i h = absurd (omega arith)
at_place (t ∷ ts) zero h = refl
at_place (t ∷ ts) (suc i) h = at_place ts i (omega arith)

pub at_item : (ts : List ViewTree) (i : ℕ) (t : ViewTree) → slice_get ts i ≡ Some t → drop i ts ≡ t ∷ drop (suc i) ts
at_item [] i t h = absurd (cc)
at_item (u ∷ us) zero t h = let e : u ≡ t = cc in ap (λ x. x ∷ us) e
at_item (u ∷ us) (suc i) t h = at_item us i t h

pub is_there : (ts : List ViewTree) (i : ℕ) → i < length ts → slice_get ts i ≡ Some (view_or_undefined (slice_get ts i))
is_there [] i h = absurd (omega arith)
is_there (t ∷ ts) zero h = refl
is_there (t ∷ ts) (suc i) h = is_there ts i (omega arith)

take_more : (ts : List ViewTree) (t : ViewTree) (i to : ℕ) → i < to → take (to - i) (t ∷ ts) ≡ t ∷ take (to - suc i) ts
take_more ts t i to h = let e : to - i ≡ suc (to - suc i) = omega arith in rw e refl

-- one more item of a part
pub part_more : (done : List ViewTree) (ts : List ViewTree) (t : ViewTree) (i to : ℕ) → i < to → slice_get ts i ≡ Some t
    → (done ++ t ∷ []) ++ take (to - (i + 1)) (drop (i + 1) ts) ≡ done ++ take (to - i) (drop i ts)
part_more done ts t i to h g = rw (add-one, at_item ts i t g, take_more (drop (suc i) ts) t i to h) (shifted done t (take (to - suc i) (drop (suc i) ts)))
  where
    shifted : (xs : List ViewTree) (x : ViewTree) (ys : List ViewTree) → (xs ++ x ∷ []) ++ ys ≡ xs ++ x ∷ ys
    shifted [] x ys = refl
    shifted (y ∷ xs) x ys = ap (λ zs. y ∷ zs) (shifted xs x ys)

pub take_none : (ts : List ViewTree) (i : ℕ) → take (i - i) ts ≡ []
take_none ts i = let e : i - i ≡ 0 = omega arith in rw e refl

pub take_all : (ts : List ViewTree) → take (length ts - 0) (drop 0 ts) ≡ ts
take_all ts = let e : length ts - 0 ≡ length ts = omega arith in rw e (whole ts)
  where
    whole : (us : List ViewTree) → take (length us) us ≡ us
    whole [] = refl
    whole (u ∷ us) = ap (λ xs. u ∷ xs) (whole us)

pub place_here : (x : ViewTree) (ts : List ViewTree) (i : ℕ) → i < length ts → strict_eq (view_or_undefined (slice_get ts i)) x ≡ true → place_of x i (drop i ts) ≡ Some i
place_here x ts i h e = rw (at_place ts i h, e) refl

pub place_later : (x : ViewTree) (ts : List ViewTree) (i : ℕ) → i < length ts → strict_eq (view_or_undefined (slice_get ts i)) x ≡ false → place_of x i (drop i ts) ≡ place_of x (i + 1) (drop (i + 1) ts)
place_later x ts i h e = rw (add-one, at_place ts i h, e) refl

pub joined_ok : (objects : List Object) (between done : List ℕ) (ts : List ViewTree) (i : ℕ) (s : List ℕ) → i < length ts → part_text objects (view_or_undefined (slice_get ts i)) ≡ Ok s
    → joined_behind objects between done (drop i ts) ≡ joined_behind objects between ((done ++ between) ++ s) (drop (i + 1) ts)
joined_ok objects between done ts i s h e = rw (add-one, at_place ts i h, e) refl

pub joined_err : (objects : List Object) (between done : List ℕ) (ts : List ViewTree) (i : ℕ) (f : Fault) → i < length ts → part_text objects (view_or_undefined (slice_get ts i)) ≡ Err f
    → joined_behind objects between done (drop i ts) ≡ Err f
joined_err objects between done ts i f h e = rw (at_place ts i h, e) refl

pub ruleset counts = (length-prims, length-views)
