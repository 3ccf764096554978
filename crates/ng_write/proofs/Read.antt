-- What `stored` made reads as the view.
use Rattle.std.proofs.Common.{◌≡◌, ◌∙◌, ◌<◌, ℕ, Bool, true, false, List, [], ◌∷◌, ◌++◌, length, refl, sym, ap, subst, arith, nat_lt, if◌then◌else◌, length-append, append_assoc, append-nil}
use Rattle.std.specs.Prelude.{Result, Ok, Err}
use Rattle.ng_base.specs.Objects.{Object, object_at}
use Rattle.ng_base.specs.Views.{ViewTree, ViewTrees, ViewFields, prim, list, rec, no_views, view_then, no_fields, field_then}
use Rattle.ng_base.specs.declared.name.Oid.{Oid}
use Rattle.ng_base.specs.declared.fault.Fault.{Fault}
use Rattle.ng_base.specs.declared.fault.Fault.TheVariants.{StoreFull}
use Rattle.ng_base.specs.declared.value.Value.{Value}
use Rattle.ng_base.specs.declared.value.Value.TheVariants as value
use Rattle.ng_write.specs.Written.{Written, ◌>>◌}
use Rattle.ng_write.specs.Storing.{array_with, plain_with, entered, with_object, stored, stored_views, stored_fields}
use Rattle.ng_write.specs.Reading.{Extends, ReadsAs, ItemsRead, FieldsRead}
use Rattle.ng_write.proofs.Filled.{last_object}
use Rattle.ng_write.proofs.Extending.{extends_object, views_extend, fields_extend, reads_on, items_on, fields_on}

-- what an answer that is given says
answer_is : {A : Type 0} (os now : List Object) (r : Result A Fault) (v : A) → (let w : Written A = (os, r) in w) ≡ (now, Ok v) → r ≡ Ok v
answer_is {A} os now r v e = ap (λ (u : Written A). u.1) e

ok_same : {A : Type 0} (a v : A) → (let r : Result A Fault = Ok a in r) ≡ Ok v → a ≡ v
ok_same a v e = cc

not_err : {A : Type 0} (x : Fault) (v : A) → (let r : Result A Fault = Err x in r) ≡ Ok v → ⊥
not_err x v e = cc

-- a new object stands under its name
record IsNew (x : Object) (now : List Object) (v : Value) : Type 0 where
  o : Oid
  is : v ≡ value.Obj o
  there : o.0 < length now
  same : object_at now o.0 ≡ x

first_is : {A : Type 0} (now : List Object) (v : A) (w : Written A) → w ≡ (now, Ok v) → w.0 ≡ now
first_is now v w e = ap (λ (u : Written _). u.0) e

abbrev where_room : Object → List Object → Bool → Written Value
where_room x objects b = if b then (objects ++ x ∷ [], Ok (value.Obj (record { 0 = length objects }))) else (objects, Err StoreFull)

new_object_is : (x : Object) (objects now : List Object) (v : Value) → with_object x objects ≡ (now, Ok v) → IsNew x now v
new_object_is x objects now v = by (nat_lt (length objects) 1000000)
  where
    by : (b : Bool) → where_room x objects b ≡ (now, Ok v) → IsNew x now v
    by true e =
        let here : objects ++ x ∷ [] ≡ now = ap (λ (w : Written Value). w.0) e in
        record {
          o = record { 0 = length objects };
          is = sym (ok_same (value.Obj (record { 0 = length objects })) v (answer_is (objects ++ x ∷ []) now (Ok (value.Obj (record { 0 = length objects }))) v e));
          there = subst (λ os. length objects < length os) here (omega (arith, length-append objects (x ∷ [])));
          same = subst (λ os. object_at os (length objects) ≡ x) here (last_object objects x);
        }
    by false e = absurd (not_err StoreFull v (answer_is objects now (Err StoreFull) v e))

-- a step that went well: its first part did
record WentOn {A B : Type 0} (w : Written A) (go : A → List Object → Written B) (now : List Object) (v : B) : Type 0 where
  mid : List Object
  value : A
  first : w ≡ (mid, Ok value)
  rest : go value mid ≡ (now, Ok v)

went_on : {A B : Type 0} (os : List Object) (r : Result A Fault) (go : A → List Object → Written B) (now : List Object) (v : B) →
    (let w : Written A = (os, r) in w >> go) ≡ (now, Ok v) → WentOn (let w : Written A = (os, r) in w) go now v
went_on os (Ok a) go now v e = record { mid = os; value = a; first = refl; rest = e }
went_on os (Err x) go now v e = absurd (not_err x v (answer_is os now (Err x) v e))

record ViewsMade (ts : ViewTrees) (done : List Value) (now : List Object) (vs : List Value) : Type 0 where
  made : List Value
  is : vs ≡ done ++ made
  read : ItemsRead now made ts

record FieldsMade (fs : ViewFields) (done : List (List ℕ × Value)) (now : List Object) (ps : List (List ℕ × Value)) : Type 0 where
  made : List (List ℕ × Value)
  is : ps ≡ done ++ made
  read : FieldsRead now made fs

mutual
  pub stored_reads : (t : ViewTree) (objects now : List Object) (v : Value) → stored objects t ≡ (now, Ok v) → ReadsAs now v t
  stored_reads (prim w) objects now v e =
      sym (ok_same w v (answer_is objects now (Ok w) v e))
  stored_reads (list ts) objects now v e =
      let s = went_on (stored_views objects [] ts).0 (stored_views objects [] ts).1 (λ items os. with_object (array_with items) os) now v e in
      let inside = views_read ts objects [] s.mid s.value s.first in
      let new = new_object_is (array_with s.value) s.mid now v s.rest in
      let more : Extends s.mid now = subst (Extends s.mid) (first_is now v (with_object (array_with s.value) s.mid) s.rest) (extends_object (array_with s.value) s.mid) in
      (new.o, s.value, new.is, new.there, new.same, items_on s.mid now more ts s.value (subst (λ vs. ItemsRead s.mid vs ts) (sym inside.is) inside.read))
  stored_reads (rec fs) objects now v e =
      let s = went_on (stored_fields objects [] fs).0 (stored_fields objects [] fs).1 (λ ps os. with_object (plain_with (entered [] ps)) os) now v e in
      let inside = fields_read fs objects [] s.mid s.value s.first in
      let new = new_object_is (plain_with (entered [] s.value)) s.mid now v s.rest in
      let more : Extends s.mid now = subst (Extends s.mid) (first_is now v (with_object (plain_with (entered [] s.value)) s.mid) s.rest) (extends_object (plain_with (entered [] s.value)) s.mid) in
      (new.o, s.value, new.is, new.there, new.same, fields_on s.mid now more fs s.value (subst (λ ps. FieldsRead s.mid ps fs) (sym inside.is) inside.read))

  views_read : (ts : ViewTrees) (objects : List Object) (done : List Value) (now : List Object) (vs : List Value) → stored_views objects done ts ≡ (now, Ok vs) → ViewsMade ts done now vs
  views_read no_views objects done now vs e =
      let is : done ≡ vs = ok_same done vs (answer_is objects now (Ok done) vs e) in
      record { made = []; is = sym is ∙ sym (append-nil done); read = tt }
  views_read (view_then t ts) objects done now vs e =
      let s = went_on (stored objects t).0 (stored objects t).1 (λ v os. stored_views os (done ++ v ∷ []) ts) now vs e in
      let here = stored_reads t objects s.mid s.value s.first in
      let rest = views_read ts s.mid (done ++ s.value ∷ []) now vs s.rest in
      let more : Extends s.mid now = subst (Extends s.mid) (first_is now vs (stored_views s.mid (done ++ s.value ∷ []) ts) s.rest) (views_extend ts s.mid (done ++ s.value ∷ [])) in
      record {
        made = s.value ∷ rest.made;
        is = rest.is ∙ append_assoc done (s.value ∷ []) rest.made;
        read = (reads_on s.mid now more t s.value here, rest.read);
      }

  fields_read : (fs : ViewFields) (objects : List Object) (done : List (List ℕ × Value)) (now : List Object) (ps : List (List ℕ × Value)) → stored_fields objects done fs ≡ (now, Ok ps) → FieldsMade fs done now ps
  fields_read no_fields objects done now ps e =
      let is : done ≡ ps = ok_same done ps (answer_is objects now (Ok done) ps e) in
      record { made = []; is = sym is ∙ sym (append-nil done); read = tt }
  fields_read (field_then name t fs) objects done now ps e =
      let s = went_on (stored objects t).0 (stored objects t).1 (λ v os. stored_fields os (done ++ (name, v) ∷ []) fs) now ps e in
      let here = stored_reads t objects s.mid s.value s.first in
      let rest = fields_read fs s.mid (done ++ (name, s.value) ∷ []) now ps s.rest in
      let more : Extends s.mid now = subst (Extends s.mid) (first_is now ps (stored_fields s.mid (done ++ (name, s.value) ∷ []) fs) s.rest) (fields_extend fs s.mid (done ++ (name, s.value) ∷ [])) in
      record {
        made = (name, s.value) ∷ rest.made;
        is = rest.is ∙ append_assoc done ((name, s.value) ∷ []) rest.made;
        read = (refl, reads_on s.mid now more t s.value here, rest.read);
      }
