-- What `stored` leaves as it was, and what it makes.
use Rattle.std.proofs.Common.{◌≡◌, ◌∙◌, ◌<◌, ◌≤◌, ℕ, zero, suc, Bool, true, false, List, [], ◌∷◌, ◌++◌, length, refl, arith, nat_lt, if◌then◌else◌, length-append}
use Rattle.std.specs.Prelude.{Result, Ok, Err}
use Rattle.ng_base.specs.Objects.{Object, object_at}
use Rattle.ng_base.specs.Views.{ViewTree, ViewTrees, ViewFields, prim, list, rec, no_views, view_then, no_fields, field_then}
use Rattle.ng_base.specs.declared.fault.Fault.{Fault}
use Rattle.ng_base.specs.declared.fault.Fault.TheVariants.{StoreFull}
use Rattle.ng_base.specs.declared.value.Value.{Value}
use Rattle.ng_base.specs.declared.value.Value.TheVariants as value
use Rattle.ng_write.specs.Written.{Written, ◌>>◌}
use Rattle.ng_write.specs.Storing.{array_with, plain_with, entered, with_object, stored, stored_views, stored_fields}
use Rattle.ng_write.specs.Reading.{Extends, ReadsAs, ItemsRead, FieldsRead}

pub extends_self : (objects : List Object) → Extends objects objects
extends_self objects = record { no_fewer = omega arith; unchanged = λ q h. refl }

pub extends_on : (a b c : List Object) → Extends a b → Extends b c → Extends a c
extends_on a b c e f = record {
  no_fewer = let x : length a ≤ length b = e.no_fewer in let y : length b ≤ length c = f.no_fewer in omega arith;
  unchanged = λ q h.
      let x : length a ≤ length b = e.no_fewer in
      let k : q < length b = omega arith in
      f.unchanged q k ∙ e.unchanged q h;
}

before_last : (xs : List Object) (x : Object) (q : ℕ) → q < length xs → object_at (xs ++ x ∷ []) q ≡ object_at xs q
before_last [] x q h = absurd (omega arith)
before_last (y ∷ ys) x zero h = refl
before_last (y ∷ ys) x (suc q) h = before_last ys x q (omega arith)

extends_more : (objects : List Object) (x : Object) → Extends objects (objects ++ x ∷ [])
extends_more objects x = record { no_fewer = omega (arith, length-append objects (x ∷ [])); unchanged = before_last objects x }

pub extends_object : (x : Object) (objects : List Object) → Extends objects (with_object x objects).0
extends_object x objects = by (nat_lt (length objects) 1000000)
  where
    by : (b : Bool) → Extends objects (let w : Written Value = if b then (objects ++ x ∷ [], Ok (value.Obj (record { 0 = length objects }))) else (objects, Err StoreFull) in w.0)
    by true = extends_more objects x
    by false = extends_self objects

extends_then : {A B : Type 0} (objects os : List Object) (r : Result A Fault) (go : A → List Object → Written B) →
    Extends objects os → ((v : A) (now : List Object) → Extends now (go v now).0) → Extends objects (let w : Written A = (os, r) in w >> go).0
extends_then objects os (Ok v) go e f = extends_on objects os (go v os).0 e (f v os)
extends_then objects os (Err x) go e f = e

mutual
  pub stored_extends : (t : ViewTree) (objects : List Object) → Extends objects (stored objects t).0
  stored_extends (prim v) objects = extends_self objects
  stored_extends (list ts) objects =
      extends_then objects (stored_views objects [] ts).0 (stored_views objects [] ts).1 (λ items now. with_object (array_with items) now)
      (views_extend ts objects []) (λ items now. extends_object (array_with items) now)
  stored_extends (rec fs) objects =
      extends_then objects (stored_fields objects [] fs).0 (stored_fields objects [] fs).1 (λ properties now. with_object (plain_with (entered [] properties)) now)
      (fields_extend fs objects []) (λ properties now. extends_object (plain_with (entered [] properties)) now)

  pub views_extend : (ts : ViewTrees) (objects : List Object) (done : List Value) → Extends objects (stored_views objects done ts).0
  views_extend no_views objects done = extends_self objects
  views_extend (view_then t ts) objects done =
      extends_then objects (stored objects t).0 (stored objects t).1 (λ v now. stored_views now (done ++ v ∷ []) ts)
      (stored_extends t objects) (λ v now. views_extend ts now (done ++ v ∷ []))

  pub fields_extend : (fs : ViewFields) (objects : List Object) (done : List (List ℕ × Value)) → Extends objects (stored_fields objects done fs).0
  fields_extend no_fields objects done = extends_self objects
  fields_extend (field_then name t fs) objects done =
      extends_then objects (stored objects t).0 (stored objects t).1 (λ v now. stored_fields now (done ++ (name, v) ∷ []) fs)
      (stored_extends t objects) (λ v now. fields_extend fs now (done ++ (name, v) ∷ []))

-- what reads as a view still does when objects stand behind
mutual
  pub reads_on : (a b : List Object) → Extends a b → (t : ViewTree) (v : Value) → ReadsAs a v t → ReadsAs b v t
  reads_on a b e (prim w) v r = r
  reads_on a b e (list ts) v (o, items, is, h, x, r) =
      (o, items, is, (let m : length a ≤ length b = e.no_fewer in omega arith), e.unchanged o.0 h ∙ x, items_on a b e ts items r)
  reads_on a b e (rec fs) v (o, ps, is, h, x, r) =
      (o, ps, is, (let m : length a ≤ length b = e.no_fewer in omega arith), e.unchanged o.0 h ∙ x, fields_on a b e fs ps r)

  pub items_on : (a b : List Object) → Extends a b → (ts : ViewTrees) (vs : List Value) → ItemsRead a vs ts → ItemsRead b vs ts
  items_on a b e no_views [] r = tt
  items_on a b e (view_then t ts) [] r = absurd r
  items_on a b e no_views (v ∷ vs) r = absurd r
  items_on a b e (view_then t ts) (v ∷ vs) r = (reads_on a b e t v r.0, items_on a b e ts vs r.1)

  pub fields_on : (a b : List Object) → Extends a b → (fs : ViewFields) (ps : List (List ℕ × Value)) → FieldsRead a ps fs → FieldsRead b ps fs
  fields_on a b e no_fields [] r = tt
  fields_on a b e (field_then name t fs) [] r = absurd r
  fields_on a b e no_fields (p ∷ ps) r = absurd r
  fields_on a b e (field_then name t fs) (p ∷ ps) r = (r.0, reads_on a b e t p.1 r.1, fields_on a b e fs ps r.2)
