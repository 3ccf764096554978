-- What a change of one object leaves as it is.
use Rattle.std.proofs.Common.{◌≡◌, ◌∙◌, ◌<◌, ℕ, zero, suc, Bool, true, false, cond, List, [], ◌∷◌, length, refl, sym, ap, arith, bytes_eq, if◌then◌else◌, Option, Some, None, subst, slice_get}
use Rattle.std.specs.Prelude.{option_and_then, IsSome}
use Rattle.std.proofs.lemmas.Slice.Eq.{bytes_eq-Decides}
use Rattle.std.specs.Map.{lookup}
use Rattle.indexmap.specs.IndexMap.{insert_entry}
use Rattle.ng_base.specs.Objects.{Object, object_at, own, own_of, is_array, index_of}
use Rattle.ng_base.specs.declared.value.Value.{Value}
use Rattle.ng_language.specs.Objects.{look, update_at, with_property, set_name}
use Rattle.ng_store.proofs.Looks.{looks_found}
use Rattle.ng_store.proofs.Sound.{Property, unequal}

pub looks_own : (objects : List Object) (name : List ℕ) (o : ℕ) → IsSome (own objects o name) → look objects o name ≡ own objects o name
looks_own objects name o h = by (own objects o name) refl h
  where
    by : (u : Option Value) → own objects o name ≡ u → IsSome u → look objects o name ≡ own objects o name
    by None e s = absurd (cc)
    by (Some v) e s = looks_found objects name o v e ∙ sym e

pub other_object : (objects : List Object) (o q : ℕ) (f : Object → Object) → (q ≡ o → ⊥) → object_at (update_at objects o f) q ≡ object_at objects q
other_object [] o q f h = refl
other_object (x ∷ xs) zero zero f h = absurd (h refl)
other_object (x ∷ xs) zero (suc q) f h = refl
other_object (x ∷ xs) (suc o) zero f h = refl
other_object (x ∷ xs) (suc o) (suc q) f h = other_object xs o q f (λ e. h (ap suc e))

pub changed_object : (objects : List Object) (o : ℕ) (f : Object → Object) → o < length objects → object_at (update_at objects o f) o ≡ f (object_at objects o)
changed_object [] o f h = absurd (omega arith)
changed_object (x ∷ xs) zero f h = refl
changed_object (x ∷ xs) (suc o) f h = changed_object xs o f (omega arith)

set_other : (es : List Property) (name other : List ℕ) (v : Value) → bytes_eq name other ≡ false → lookup (bytes_eq other) (insert_entry bytes_eq es name v) ≡ lookup (bytes_eq other) es
set_other [] name other v h = let e : bytes_eq other name ≡ false = unequal name other h in rw e refl
set_other (e ∷ es) name other v h = by (bytes_eq name e.0) refl (set_other es name other v h)
  where
    by : (b : Bool) → bytes_eq name e.0 ≡ b → lookup (bytes_eq other) (insert_entry bytes_eq es name v) ≡ lookup (bytes_eq other) es
        → lookup (bytes_eq other) (if b then (e.0, v) ∷ es else e ∷ insert_entry bytes_eq es name v) ≡ lookup (bytes_eq other) (e ∷ es)
    by true t rest =
        let same : name ≡ e.0 = (bytes_eq-Decides name e.0).0 t in
        let apart : bytes_eq other e.0 ≡ false = subst (λ n. bytes_eq other n ≡ false) same (unequal name other h) in
        rw apart refl
    by false t rest = ap (λ u. cond (bytes_eq other e.0) (Some e.1) u) rest

set_here : (es : List Property) (name : List ℕ) (v : Value) → lookup (bytes_eq name) (insert_entry bytes_eq es name v) ≡ Some v
set_here [] name v = let e : bytes_eq name name ≡ true = (bytes_eq-Decides name name).1 refl in rw e refl
set_here (e ∷ es) name v = by (bytes_eq name e.0) refl (set_here es name v)
  where
    by : (b : Bool) → bytes_eq name e.0 ≡ b → lookup (bytes_eq name) (insert_entry bytes_eq es name v) ≡ Some v
        → lookup (bytes_eq name) (if b then (e.0, v) ∷ es else e ∷ insert_entry bytes_eq es name v) ≡ Some v
    by true t rest = rw t refl
    by false t rest = rw t rest

pub other_name : (objects : List Object) (o : ℕ) (name other : List ℕ) (v : Value) → o < length objects → bytes_eq name other ≡ false → own (set_name objects o name v) o other ≡ own objects o other
other_name objects o name other v h e =
    ap (λ x. own_of x other) (changed_object objects o (with_property name v) h) ∙ by (is_array (object_at objects o).kind)
  where
    by : (b : Bool) → (if b then option_and_then (λ i. slice_get (object_at objects o).items i) (index_of other) else lookup (bytes_eq other) (insert_entry bytes_eq (object_at objects o).properties name v))
        ≡ (if b then option_and_then (λ i. slice_get (object_at objects o).items i) (index_of other) else lookup (bytes_eq other) (object_at objects o).properties)
    by true = refl
    by false = set_other (object_at objects o).properties name other v e

pub set_value_is : (objects : List Object) (o : ℕ) (name : List ℕ) (v : Value) → o < length objects → is_array (object_at objects o).kind ≡ false → own (set_name objects o name v) o name ≡ Some v
set_value_is objects o name v h k =
    ap (λ x. own_of x name) (changed_object objects o (with_property name v) h)
    ∙ rw k (set_here (object_at objects o).properties name v)
