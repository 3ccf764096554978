-- A value that was assigned is read back.
use Rattle.std.proofs.Common.{◌≡◌, ◌∙◌, ◌++◌, ◌∷◌, [], ◌<◌, ◌≤◌, ℕ, zero, suc, Bool, true, false, List, length, take, refl, ap, arith, pos, slice_set, slice_get, if◌then◌else◌, nat_lt, nat_le, Option, Some, None, IsSome, ◌==◌, ◌&&◌}
use Rattle.std.specs.Prelude.{Result, Ok, Err, option_and_then}
use Rattle.std.proofs.lemmas.Bool.Decides.{nat_tests}
use Rattle.std.proofs.lemmas.List.{length-take}
use Rattle.std.specs.Map.{lookup}
use Rattle.std.specs.Str.{bytes_eq}
use Rattle.ng_base.specs.Objects.{Object, object_at, own, is_array, index_of}
use Rattle.ng_base.specs.Views.{prim}
use Rattle.ng_base.specs.declared.heap.ObjKind.{ObjKind}
use Rattle.ng_base.specs.declared.heap.ObjKind.TheVariants as kinds
use Rattle.ng_base.specs.declared.fault.Fault.{Fault}
use Rattle.ng_base.specs.declared.fault.Fault.TheVariants.{NotAssignable, Range}
use Rattle.ng_base.specs.declared.name.Oid.{Oid}
use Rattle.ng_base.specs.declared.value.Value.{Value}
use Rattle.ng_base.specs.declared.value.Value.TheVariants as value
use Rattle.ng_language.specs.Objects.{look, with_items, with_property, set_name, set_items, items_at}
use Rattle.ng_store.proofs.Kept.{changed_object, looks_own, set_value_is}
use Rattle.ng_members.specs.Members.{is_length, object_member, or_undefined, member, count}
use Rattle.ng_write.specs.Written.{Written}
use Rattle.ng_write.specs.Assigning.{is_kept_name, length_assigned, item_assigned, beyond, indexed, by_kind, object_assigned}
use Rattle.ng_write.proofs.Filled.{set_items_at}

abbrev pub Answer : Type 0
Answer = Result (Unit {0}) Fault

not_ok : (x : Fault) (P : Type 0) → (let r : Answer = Err x in r) ≡ Ok tt → P
not_ok x P e = absurd (cc)

some_is : (o : Option Value) (v : Value) → o ≡ Some v → IsSome o
some_is None v e = absurd (cc)
some_is (Some w) v e = refl

-- a name of what is no array
read_set : (objects : List Object) (o : ℕ) (name : List ℕ) (v : Value) → o < length objects → is_array (object_at objects o).kind ≡ false → object_member (set_name objects o name v) o name ≡ prim v
read_set objects o name v h k =
    let own_is : own (set_name objects o name v) o name ≡ Some v = set_value_is objects o name v h k in
    let look_is : look (set_name objects o name v) o name ≡ Some v = looks_own (set_name objects o name v) name o (some_is (own (set_name objects o name v) o name) v own_is) ∙ own_is in
    let plain : is_array (object_at (set_name objects o name v) o).kind ≡ false = ap (λ (x : Object). is_array x.kind) (changed_object objects o (with_property name v) h) ∙ k in
    ap (λ (b : Bool). if b && is_length name then count (length (items_at (set_name objects o name v) o)) else or_undefined (look (set_name objects o name v) o name)) plain
    ∙ ap or_undefined look_is

-- the array keeps its kind, and has the items that were set
still_array : (objects : List Object) (o : ℕ) (items : List Value) → o < length objects → (object_at objects o).kind ≡ kinds.Array → is_array (object_at (set_items objects o items) o).kind ≡ true
still_array objects o items h k = ap (λ (x : Object). is_array x.kind) (changed_object objects o (with_items items) h) ∙ ap is_array k

read_length : (objects : List Object) (o : ℕ) (name : List ℕ) (n : ℕ) → o < length objects → (object_at objects o).kind ≡ kinds.Array → is_length name ≡ true → n ≤ length (items_at objects o) →
    object_member (set_items objects o (take n (items_at objects o))) o name ≡ prim (value.Int (pos n))
read_length objects o name n h k l le =
    let after = set_items objects o (take n (items_at objects o)) in
    let array = still_array objects o (take n (items_at objects o)) h k in
    let short : length (take n (items_at objects o)) ≡ n = omega (arith, length-take n (items_at objects o)) in
    let many : length (items_at after o) ≡ n = ap length (set_items_at objects o (take n (items_at objects o)) h) ∙ short in
    ap (λ (b : Bool). if b && is_length name then count (length (items_at after o)) else or_undefined (look after o name)) array
    ∙ ap (λ (b : Bool). if b then count (length (items_at after o)) else or_undefined (look after o name)) l
    ∙ ap count many

read_index : (objects : List Object) (o : ℕ) (name : List ℕ) (i : ℕ) (items : List Value) (v : Value) → o < length objects → (object_at objects o).kind ≡ kinds.Array → is_length name ≡ false → index_of name ≡ Some i → slice_get items i ≡ Some v →
    object_member (set_items objects o items) o name ≡ prim v
read_index objects o name i items v h k l x g =
    let after = set_items objects o items in
    let array = still_array objects o items h k in
    let own_is : own after o name ≡ Some v =
    ap (λ (b : Bool). if b then option_and_then (λ j. slice_get (items_at after o) j) (index_of name) else lookup (bytes_eq name) (object_at after o).properties) array ∙ (ap (option_and_then (λ j. slice_get (items_at after o) j)) x ∙ (ap (λ vs. slice_get vs i) (set_items_at objects o items h) ∙ g)) in
    let look_is : look after o name ≡ Some v = looks_own after name o (some_is (own after o name) v own_is) ∙ own_is in
    ap (λ (b : Bool). if b && is_length name then count (length (items_at after o)) else or_undefined (look after o name)) array
    ∙ ap (λ (b : Bool). if b then count (length (items_at after o)) else or_undefined (look after o name)) l
    ∙ ap or_undefined look_is

get_set : (items : List Value) (i : ℕ) (v : Value) → i < length items → slice_get (slice_set items i v) i ≡ Some v
get_set [] i v h = absurd (omega arith)
get_set (x ∷ xs) zero v h = refl
get_set (x ∷ xs) (suc i) v h = get_set xs i v (omega arith)

get_last : (items : List Value) (v : Value) → slice_get (items ++ v ∷ []) (length items) ≡ Some v
get_last [] v = refl
get_last (x ∷ xs) v = get_last xs v

-- what is read back where an assignment went well
abbrev ReadBack : List ℕ → ℕ → Value → Written (Unit {0}) → Type 0
ReadBack name o v w = w.1 ≡ Ok tt → object_member w.0 o name ≡ prim v

either : (name : List ℕ) (o : ℕ) (v : Value) (b : Bool) (w u : Written (Unit {0})) → (b ≡ true → ReadBack name o v w) → (b ≡ false → ReadBack name o v u) → ReadBack name o v (if b then w else u)
either name o v true w u h k = h refl
either name o v false w u h k = k refl

back_length : (objects : List Object) (o : ℕ) (name : List ℕ) (v : Value) → o < length objects → (object_at objects o).kind ≡ kinds.Array → is_length name ≡ true → ReadBack name o v (length_assigned objects o v)
back_length objects o name (value.Int (pos n)) h k l =
    either name o (value.Int (pos n)) (nat_le n (length (items_at objects o))) (set_items objects o (take n (items_at objects o)), Ok tt) (objects, Err Range)
    (λ t a. read_length objects o name n h k l (grind (arith, nat_tests, t)))
    (λ t a. not_ok Range _ a)
back_length objects o name v h k l = λ a. not_ok Range _ a

back_item : (objects : List Object) (o i : ℕ) (name : List ℕ) (v : Value) → o < length objects → (object_at objects o).kind ≡ kinds.Array → is_length name ≡ false → index_of name ≡ Some i → ReadBack name o v (item_assigned objects o i v)
back_item objects o i name v h k l x =
    let items = items_at objects o in
    let rest : Written (Unit {0}) = if i == length items then (set_items objects o (items ++ v ∷ []), Ok tt) else (objects, Err Range) in
    either name o v (nat_lt i (length items)) (set_items objects o (slice_set items i v), Ok tt) rest
    (λ t a. read_index objects o name i (slice_set items i v) v h k l x (get_set items i v (grind (arith, nat_tests, t))))
    (λ t. either name o v (i == length items) (set_items objects o (items ++ v ∷ []), Ok tt) (objects, Err Range)
    (λ s a.
    let same : i ≡ length items = grind (arith, nat_tests, s) in
    read_index objects o name i (items ++ v ∷ []) v h k l x (ap (slice_get (items ++ v ∷ [])) same ∙ get_last items v))
    (λ s a. not_ok Range _ a))

back_indexed : (objects : List Object) (o : ℕ) (name : List ℕ) (v : Value) (i : Option ℕ) → o < length objects → (object_at objects o).kind ≡ kinds.Array → is_length name ≡ false → index_of name ≡ i → ReadBack name o v (indexed objects o name i v)
back_indexed objects o name v None h k l x = λ a. not_ok (beyond name) _ a
back_indexed objects o name v (Some i) h k l x = back_item objects o i name v h k l x

back_kind : (k : ObjKind) (objects : List Object) (o : ℕ) (name : List ℕ) (v : Value) → o < length objects → (object_at objects o).kind ≡ k → ReadBack name o v (by_kind k objects o name v)
back_kind kinds.Plain objects o name v h k = λ a. read_set objects o name v h (ap is_array k)
back_kind kinds.Event objects o name v h k = λ a. read_set objects o name v h (ap is_array k)
back_kind kinds.Array objects o name v h k =
    either name o v (is_length name) (length_assigned objects o v) (indexed objects o name (index_of name) v)
    (λ l. back_length objects o name v h k l) (λ l. back_indexed objects o name v (index_of name) h k l refl)
back_kind kinds.Scope objects o name v h k =
    either name o v (is_kept_name name) (objects, Err NotAssignable) (set_name objects o name v, Ok tt)
    (λ l a. not_ok NotAssignable _ a) (λ l a. read_set objects o name v h (ap is_array k))

pub read_back : (objects : List Object) (o : Oid) (name : List ℕ) (v : Value) → o.0 < length objects → (object_assigned objects o.0 name v).1 ≡ Ok tt → member (object_assigned objects o.0 name v).0 (prim (value.Obj o)) name ≡ prim v
unfolding object_assigned member
read_back objects o name v h a = back_kind (object_at objects o.0).kind objects o.0 name v h refl a
