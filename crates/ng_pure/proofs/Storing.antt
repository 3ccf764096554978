-- A list or record of values that show views becomes a new object that shows the list or record of the views.
use Rattle.std.proofs.Common.{◌≡◌, ◌∙◌, ◌≤◌, ℕ, Bool, true, false, List, [], ◌∷◌, ◌++◌, length, refl, sym, ap, subst, arith, bytes_eq, nat_lt, if◌then◌else◌, true≢false, append-nil, append_assoc, ◌⊎◌, length-append}
use Rattle.std.specs.Prelude.{Result, Ok, Err}
use Rattle.std.specs.List.{AllByRecursion, IsDistinct}
use Rattle.std.specs.Map.{keys_of}
use Rattle.std.proofs.lemmas.Bool.Decides.{nat_tests}
use Rattle.indexmap.specs.IndexMap.{insert_entry}
use Rattle.ng_base.specs.Objects.{Object, object_at}
use Rattle.ng_base.specs.Views.{ViewTree, ViewTrees, ViewFields, prim, list, rec, no_views, view_then, no_fields, field_then, views_list, fields_list}
use Rattle.ng_base.specs.declared.name.Oid.{Oid}
use Rattle.ng_base.specs.declared.value.Value.{Value}
use Rattle.ng_base.specs.declared.value.Value.TheVariants as value
use Rattle.ng_base.specs.declared.fault.Fault.{Fault}
use Rattle.ng_base.specs.declared.fault.Fault.TheVariants.{StoreFull}
use Rattle.ng_store.proofs.Sound.{unequal}
use Rattle.ng_write.specs.Reading.{Extends}
use Rattle.ng_write.specs.Storing.{array_with, plain_with, entered, with_object, stored, stored_views, stored_fields}
use Rattle.ng_write.specs.Written.{Written, ◌>>◌}
use Rattle.ng_write.proofs.Extending.{extends_self, extends_object}
use Rattle.ng_write.proofs.Filled.{last_object}
use Rattle.ng_pure.specs.Pure.{IsFull}
use Rattle.ng_pure.specs.Showing.{Shows, ItemsShow, NamesShow}
use Rattle.ng_pure.proofs.Shown.{AllSeen, FieldsSeen, items_on, names_on}
use Rattle.ng_pure.proofs.Methods.{Given}

-- the answer is the one that is asked for, or the same fault, or there is no room for an object
abbrev pub Answered : {A B : Type 0} → (List Object → A → B → Type 0) → List Object → Result A Fault → Result B Fault → Type 0
Answered R objects (Ok a) (Ok b) = R objects a b
Answered R objects (Ok a) (Err e) = ⊥
Answered R objects (Err d) (Ok b) = IsFull objects d
Answered R objects (Err d) (Err e) = (d ≡ e) ⊎ IsFull objects d

-- what was written
pub record Wrote {A B : Type 0} (R : List Object → A → B → Type 0) (objects : List Object) (w : Written A) (r : Result B Fault) : Type 0 where
  pub extends : Extends objects w.0
  pub answer : Answered R w.0 w.1 r

-- the values in a list of them
record StoredAll (n from : ℕ) (objects : List Object) (done : List Value) (us ts : ViewTrees) : Type 0 where
  vs : List Value
  same : stored_views objects done us ≡ (objects, Ok (done ++ vs))
  shows : ItemsShow n from objects vs ts

stored_all : (n from : ℕ) (objects : List Object) (us ts : ViewTrees) (done : List Value) → AllSeen n from objects (views_list us) (views_list ts) → StoredAll n from objects done us ts
stored_all n from objects no_views no_views done s = record { vs = []; same = ap (λ vs. (objects, Ok vs)) (sym (append-nil done)); shows = tt }
stored_all n from objects no_views (view_then t ts) done s = absurd s
stored_all n from objects (view_then u us) no_views done s = absurd s
stored_all n from objects (view_then (prim v) us) (view_then t ts) done s =
    let rest = stored_all n from objects us ts (done ++ v ∷ []) s.1 in
    record { vs = v ∷ rest.vs; same = rest.same ∙ ap (λ vs. (objects, Ok vs)) (append_assoc done (v ∷ []) rest.vs); shows = (s.0, rest.shows) }
stored_all n from objects (view_then (list us) vs) (view_then t ts) done s = absurd s.0
stored_all n from objects (view_then (rec fs) vs) (view_then t ts) done s = absurd s.0

record StoredNamed (n from : ℕ) (objects : List Object) (done : List (List ℕ × Value)) (fs gs : ViewFields) : Type 0 where
  ps : List (List ℕ × Value)
  same : stored_fields objects done fs ≡ (objects, Ok (done ++ ps))
  shows : NamesShow n from objects ps gs
  names : keys_of ps ≡ keys_of (fields_list gs)

stored_named : (n from : ℕ) (objects : List Object) (fs gs : ViewFields) (done : List (List ℕ × Value)) → FieldsSeen n from objects (fields_list fs) (fields_list gs) → StoredNamed n from objects done fs gs
stored_named n from objects no_fields no_fields done s = record { ps = []; same = ap (λ ps. (objects, Ok ps)) (sym (append-nil done)); shows = tt; names = refl }
stored_named n from objects no_fields (field_then m t gs) done s = absurd s
stored_named n from objects (field_then name u fs) no_fields done s = absurd s
stored_named n from objects (field_then name (prim v) fs) (field_then m t gs) done s =
    let rest = stored_named n from objects fs gs (done ++ (name, v) ∷ []) s.1 in
    record {
      ps = (name, v) ∷ rest.ps;
      same = rest.same ∙ ap (λ ps. (objects, Ok ps)) (append_assoc done ((name, v) ∷ []) rest.ps);
      shows = (s.0.0, s.0.1, rest.shows);
      names = ap (λ k. k ∷ keys_of rest.ps) s.0.0 ∙ ap (λ ks. m ∷ ks) rest.names;
    }
stored_named n from objects (field_then name (list us) fs) (field_then m t gs) done s = absurd s.0.1
stored_named n from objects (field_then name (rec us) fs) (field_then m t gs) done s = absurd s.0.1

-- names that differ keep their places
insert_new : (es : List (List ℕ × Value)) (name : List ℕ) (v : Value) → AllByRecursion (λ k. bytes_eq name k ≡ false) (keys_of es) → insert_entry bytes_eq es name v ≡ es ++ (name, v) ∷ []
insert_new [] name v a = refl
insert_new (e ∷ es) name v a = by (bytes_eq name e.0) a.0 (insert_new es name v a.1)
  where
    by : (b : Bool) → b ≡ false → insert_entry bytes_eq es name v ≡ es ++ (name, v) ∷ [] → (if b then (e.0, v) ∷ es else e ∷ insert_entry bytes_eq es name v) ≡ e ∷ (es ++ (name, v) ∷ [])
    by true h rest = absurd (true≢false h)
    by false h rest = ap (λ xs. e ∷ xs) rest

abbrev AreNew : List (List ℕ × Value) → List (List ℕ × Value) → Type 0
AreNew done ps = AllByRecursion (λ (p : List ℕ × Value). AllByRecursion (λ k. bytes_eq p.0 k ≡ false) (keys_of done)) ps

apart_more : (k : List ℕ) (done : List (List ℕ × Value)) (p : List ℕ × Value) → AllByRecursion (λ y. bytes_eq k y ≡ false) (keys_of done) → bytes_eq k p.0 ≡ false → AllByRecursion (λ y. bytes_eq k y ≡ false) (keys_of (done ++ p ∷ []))
apart_more k [] p a h = (h, tt)
apart_more k (d ∷ ds) p a h = (a.0, apart_more k ds p a.1 h)

still_new : (done ps : List (List ℕ × Value)) (p : List ℕ × Value) → AreNew done ps → AllByRecursion (λ k. bytes_eq p.0 k ≡ false) (keys_of ps) → AreNew (done ++ p ∷ []) ps
still_new done [] p a h = tt
still_new done (q ∷ ps) p a h = (apart_more q.0 done p a.0 (unequal p.0 q.0 h.0), still_new done ps p a.1 h.1)

entered_new : (done ps : List (List ℕ × Value)) → IsDistinct bytes_eq (keys_of ps) → AreNew done ps → entered done ps ≡ done ++ ps
unfolding IsDistinct
entered_new done [] d a = sym (append-nil done)
entered_new done (p ∷ ps) d a =
    ap (λ es. entered es ps) (insert_new done p.0 p.1 a.0)
    ∙ (entered_new (done ++ p ∷ []) ps d.1 (still_new done ps p a.1 d.0) ∙ append_assoc done (p ∷ []) ps)

all_new : (ps : List (List ℕ × Value)) → AreNew [] ps
all_new [] = tt
all_new (p ∷ ps) = (tt, all_new ps)

pub entered_distinct : (ps : List (List ℕ × Value)) → IsDistinct bytes_eq (keys_of ps) → entered [] ps ≡ ps
entered_distinct ps d = entered_new [] ps d (all_new ps)

abbrev pub ShownAt : ℕ → ℕ → List Object → Value → ViewTree → Type 0
ShownAt n from objects v t = Shows n from objects v t

abbrev where_room : Object → List Object → Bool → Written Value
where_room x objects b = if b then (objects ++ x ∷ [], Ok (value.Obj (record { 0 = length objects }))) else (objects, Err StoreFull)

-- a new object, where there is room for it
made_with : (n from : ℕ) (x : Object) (objects : List Object) (t : ViewTree) → ((o : Oid) → o.0 ≡ length objects → Extends objects (objects ++ x ∷ []) → Shows n from (objects ++ x ∷ []) (value.Obj o) t) → Wrote (ShownAt n from) objects (with_object x objects) (Ok t)
made_with n from x objects t h = record { extends = extends_object x objects; answer = by (nat_lt (length objects) 1000000) refl (extends_object x objects) }
  where
    by : (b : Bool) → nat_lt (length objects) 1000000 ≡ b → Extends objects (where_room x objects b).0 → Answered (ShownAt n from) (where_room x objects b).0 (where_room x objects b).1 (Ok t)
    by true e more = h (record { 0 = length objects }) refl more
    by false e more = (refl, (let k : nat_lt (length objects) 1000000 ≡ false = e in grind (arith, nat_tests)))

list_made : (n from : ℕ) (objects : List Object) (vs : List Value) (ts : ViewTrees) → from ≤ length objects → ItemsShow n from objects vs ts → Wrote (ShownAt n from) objects (with_object (array_with vs) objects) (Ok (list ts))
list_made n from objects vs ts h s =
    made_with n from (array_with vs) objects (list ts)
    (λ o e more. (o, vs, refl, omega arith, omega (arith, length-append objects (array_with vs ∷ [])), ap (object_at (objects ++ array_with vs ∷ [])) e ∙ last_object objects (array_with vs), items_on n from from objects (objects ++ array_with vs ∷ []) more (omega arith) ts vs s))

rec_made : (n from : ℕ) (objects : List Object) (ps : List (List ℕ × Value)) (fs : ViewFields) → from ≤ length objects → IsDistinct bytes_eq (keys_of ps) → NamesShow n from objects ps fs → Wrote (ShownAt n from) objects (with_object (plain_with ps) objects) (Ok (rec fs))
rec_made n from objects ps fs h d s =
    made_with n from (plain_with ps) objects (rec fs)
    (λ o e more. (o, ps, refl, omega arith, omega (arith, length-append objects (plain_with ps ∷ [])), ap (object_at (objects ++ plain_with ps ∷ [])) e ∙ last_object objects (plain_with ps), d, names_on n from from objects (objects ++ plain_with ps ∷ []) more (omega arith) fs ps s))

-- What is given becomes a value that shows it.
pub stored_given : (n from : ℕ) (objects : List Object) → from ≤ length objects → (u t : ViewTree) → Given n from objects u t → Wrote (ShownAt n from) objects (stored objects u) (Ok t)
stored_given n from objects h (prim v) t s = record { extends = extends_self objects; answer = s }
stored_given n from objects h (list us) (list ts) s =
    let all = stored_all n from objects us ts [] s in
    let P : Written (List Value) → Type 0 = λ w. Wrote (ShownAt n from) objects (w >> λ items now. with_object (array_with items) now) (Ok (list ts)) in
    subst P (sym all.same) (list_made n from objects all.vs ts h all.shows)
stored_given n from objects h (list us) (prim w) s = absurd s
stored_given n from objects h (list us) (rec gs) s = absurd s
stored_given n from objects h (rec fs) (rec gs) s =
    let all = stored_named n from objects fs gs [] s.0 in
    let d : IsDistinct bytes_eq (keys_of all.ps) = subst (IsDistinct bytes_eq) (sym all.names) s.1 in
    let P : Written (List (List ℕ × Value)) → Type 0 = λ w. Wrote (ShownAt n from) objects (w >> λ ps now. with_object (plain_with (entered [] ps)) now) (Ok (rec gs)) in
    subst P (sym all.same)
    (subst (λ ps. Wrote (ShownAt n from) objects (with_object (plain_with ps) objects) (Ok (rec gs))) (sym (entered_distinct all.ps d)) (rec_made n from objects all.ps gs h d all.shows))
stored_given n from objects h (rec fs) (prim w) s = absurd s
stored_given n from objects h (rec fs) (list ts) s = absurd s
