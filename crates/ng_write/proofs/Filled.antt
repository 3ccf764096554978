-- A new object that is filled, and ranges of items at either end.
use Rattle.std.proofs.Common.{◌≡◌, ◌∙◌, ◌+◌, ◌-◌, ◌≤◌, ◌<◌, ℕ, List, [], ◌∷◌, ◌++◌, length, take, drop, refl, sym, ap, arith, append-nil, None, bytes_eq, length-append, add_comm}
use Rattle.std.specs.Prelude.{Ok}
use Rattle.std.specs.List.{splice}
use Rattle.std.proofs.lemmas.List.{take_all}
use Rattle.std.proofs.Math.ListN.{drop_of_length-le}
use Rattle.indexmap.specs.IndexMap.{insert_entry}
use Rattle.ng_base.specs.Objects.{Object, object_at}
use Rattle.ng_base.specs.declared.heap.ObjKind.TheVariants as kinds
use Rattle.ng_base.specs.declared.value.Value.{Value}
use Rattle.ng_language.specs.Objects.{update_at, with_items, with_property, items_at, set_items, set_name, new_object}
use Rattle.ng_store.proofs.Kept.{changed_object}
use Rattle.ng_write.specs.Changing.{number, pushed, unshifted}
use Rattle.ng_write.specs.Storing.{array_with, plain_with, entered, with_names}

-- the last object is changed
pub update_last : (xs : List Object) (x : Object) (f : Object → Object) → update_at (xs ++ x ∷ []) (length xs) f ≡ xs ++ f x ∷ []
update_last [] x f = refl
update_last (y ∷ ys) x f = ap (λ zs. y ∷ zs) (update_last ys x f)

pub last_object : (xs : List Object) (x : Object) → object_at (xs ++ x ∷ []) (length xs) ≡ x
last_object [] x = refl
last_object (y ∷ ys) x = last_object ys x

take_none : (items : List Value) → take 0 items ≡ []
take_none [] = refl
take_none (v ∷ vs) = refl

drop_none : (items : List Value) → drop 0 items ≡ items
drop_none [] = refl
drop_none (v ∷ vs) = refl

-- values before the items
pub splice_front : (items new : List Value) → splice items 0 (0 + 0) new ≡ new ++ items
splice_front items new = ap (λ xs. xs ++ (new ++ drop 0 items)) (take_none items) ∙ ap (λ xs. new ++ xs) (drop_none items)

-- values behind the items
pub splice_end : (items new : List Value) → splice items (length items) (length items + 0) new ≡ items ++ new
splice_end items new =
    ap (λ xs. xs ++ (new ++ drop (length items + 0) items)) (take_all (length items) items (omega arith))
    ∙ ap (λ xs. items ++ xs) (ap (λ xs. new ++ xs) (drop_of_length-le items (omega arith)) ∙ append-nil new)

-- the items up to a place
pub splice_cut : (items : List Value) (n : ℕ) → n ≤ length items → splice items n (n + (length items - n)) [] ≡ take n items
splice_cut items n h =
    ap (λ xs. take n items ++ xs) (drop_of_length-le items (omega arith)) ∙ append-nil (take n items)

-- an array that is made empty and filled
pub filled_array : (objects : List Object) (items : List Value) →
    set_items (objects ++ new_object kinds.Array None ∷ []) (length objects) (splice (items_at (objects ++ new_object kinds.Array None ∷ []) (length objects)) 0 (0 + 0) items) ≡ objects ++ array_with items ∷ []
filled_array objects items =
    let new = new_object kinds.Array None in
    update_last objects new (with_items (splice (items_at (objects ++ new ∷ []) (length objects)) 0 (0 + 0) items))
    ∙ ap (λ vs. objects ++ with_items vs new ∷ [])
    (splice_front (items_at (objects ++ new ∷ []) (length objects)) items
    ∙ ap (λ (x : Object). items ++ x.items) (last_object objects new)
    ∙ append-nil items)

-- a name of the last object is set
pub entered_one : (objects : List Object) (done : List (List ℕ × Value)) (name : List ℕ) (v : Value) →
    set_name (objects ++ plain_with done ∷ []) (length objects) name v ≡ objects ++ plain_with (insert_entry bytes_eq done name v) ∷ []
entered_one objects done name v = update_last objects (plain_with done) (with_property name v)

pub entered_all : (objects : List Object) (done ps : List (List ℕ × Value)) →
    with_names (objects ++ plain_with done ∷ []) (length objects) ps ≡ objects ++ plain_with (entered done ps) ∷ []
entered_all objects done [] = refl
entered_all objects done (p ∷ ps) =
    ap (λ os. with_names os (length objects) ps) (entered_one objects done p.0 p.1) ∙ entered_all objects (insert_entry bytes_eq done p.0 p.1) ps

-- an object that is made empty and filled
pub filled_plain : (objects : List Object) (ps : List (List ℕ × Value)) →
    with_names (objects ++ new_object kinds.Plain None ∷ []) (length objects) ps ≡ objects ++ plain_with (entered [] ps) ∷ []
filled_plain objects ps = entered_all objects [] ps

-- the items that are set stand there
pub set_items_at : (objects : List Object) (o : ℕ) (items : List Value) → o < length objects → items_at (set_items objects o items) o ≡ items
set_items_at objects o items h = ap (λ (x : Object). x.items) (changed_object objects o (with_items items) h)

-- how many items an array has once some are set
pub pushed_length : (objects : List Object) (o : ℕ) (items : List Value) → o < length objects → length (items_at (set_items objects o items) o) ≡ length items
pushed_length objects o items h = ap length (set_items_at objects o items h)

-- what `push` and `unshift` leave and give
pub is_pushed : (objects now : List Object) (o n : ℕ) (args : List Value) → o < length objects → n ≡ length (items_at objects o) →
    now ≡ set_items objects o (splice (items_at objects o) n (n + 0) args) → pushed objects o args ≡ (now, Ok (number (length (items_at now o))))
is_pushed objects now o n args h k e =
    let items = items_at objects o in
    let same : now ≡ set_items objects o (items ++ args) =
    e ∙ ap (set_items objects o) (ap (λ i. splice items i (i + 0) args) k ∙ splice_end items args) in
    let many : length (items_at now o) ≡ length items + length args =
    ap (λ (os : List Object). length (items_at os o)) same ∙ (pushed_length objects o (items ++ args) h ∙ length-append items args) in
    ap (λ (os : List Object). (os, Ok (number (length items + length args)))) (sym same) ∙ ap (λ i. (now, Ok (number i))) (sym many)

pub is_unshifted : (objects now : List Object) (o : ℕ) (args : List Value) → o < length objects →
    now ≡ set_items objects o (splice (items_at objects o) 0 (0 + 0) args) → unshifted objects o args ≡ (now, Ok (number (length (items_at now o))))
is_unshifted objects now o args h e =
    let items = items_at objects o in
    let same : now ≡ set_items objects o (args ++ items) = e ∙ ap (set_items objects o) (splice_front items args) in
    let many : length (items_at now o) ≡ length items + length args =
    ap (λ (os : List Object). length (items_at os o)) same ∙ (pushed_length objects o (args ++ items) h ∙ (length-append args items ∙ add_comm (length args) (length items))) in
    ap (λ (os : List Object). (os, Ok (number (length items + length args)))) (sym same) ∙ ap (λ i. (now, Ok (number i))) (sym many)
