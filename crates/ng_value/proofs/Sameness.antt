-- Being the same is being equal.
use Rattle.std.proofs.Common.{◌≡◌, ◌∙◌, ◌↔◌, Bool, true, false, not, refl, sym, ap, IsTrue, true≢false, bytes_eq, if◌then◌else◌}
use Rattle.std.proofs.lemmas.Slice.Eq.{bytes_eq-Decides}
use Rattle.ng_base.specs.Views.{ViewTree, ViewTrees, ViewFields, prim, list, rec, no_views, view_then, no_fields, field_then}
use Rattle.ng_base.specs.declared.value.Value.{Value}
use Rattle.ng_base.specs.declared.value.Value.TheVariants as value
use Rattle.ng_language.specs.Operators.{same}
use Rattle.ng_language.specs.Snapshots.{same_view, same_views, same_fields, differs}
use Rattle.std.proofs.lemmas.Bool.{eqb-true, eq-eqb}
use Rattle.std.proofs.lemmas.Bool.Decides.{Decides-int_eq}

bools_are : (a b : Bool) → (if a then b else not b) ≡ true → a ≡ b
bools_are true true h = refl
bools_are true false h = absurd (true≢false (sym h))
bools_are false true h = absurd (true≢false (sym h))
bools_are false false h = refl

bool_self : (a : Bool) → (if a then a else not a) ≡ true
bool_self true = refl
bool_self false = refl

pub same_is : (v w : Value) → same v w ≡ true → v ≡ w
same_is value.Undefined value.Undefined h = refl
same_is value.Null value.Null h = refl
same_is (value.Bool a) (value.Bool b) h = ap value.Bool (bools_are a b h)
same_is (value.Int m) (value.Int n) h = ap value.Int ((Decides-int_eq m n).0 h)
same_is value.Nan value.Nan h = refl
same_is (value.Text s) (value.Text t) h = ap value.Text ((bytes_eq-Decides s t).0 h)
same_is (value.Obj o) (value.Obj p) h = ap (λ n. value.Obj (record { 0 = n })) (eqb-true o.0 p.0 h)
same_is (value.Fun f) (value.Fun g) h = ap (λ n. value.Fun (record { 0 = n })) (eqb-true f.0 g.0 h)
same_is v w h = absurd (true≢false (sym h))

pub same_self : (v : Value) → same v v ≡ true
same_self value.Undefined = refl
same_self value.Null = refl
same_self (value.Bool b) = bool_self b
same_self (value.Int n) = (Decides-int_eq n n).1 refl
same_self value.Nan = refl
same_self (value.Text t) = (bytes_eq-Decides t t).1 refl
same_self (value.Obj o) = eq-eqb o.0 o.0 refl
same_self (value.Fun f) = eq-eqb f.0 f.0 refl

both : (b c : Bool) → (if b then c else false) ≡ true → (b ≡ true) × (c ≡ true)
both true c h = (refl, h)
both false c h = absurd (true≢false (sym h))

mutual
  pub same_view_is : (t u : ViewTree) → same_view t u ≡ true → t ≡ u
  same_view_is (prim v) (prim w) h = ap prim (same_is v w h)
  same_view_is (list ts) (list us) h = ap list (same_views_are ts us h)
  same_view_is (rec fs) (rec gs) h = ap rec (same_fields_are fs gs h)
  same_view_is t u h = absurd (true≢false (sym h))

  same_views_are : (ts us : ViewTrees) → same_views ts us ≡ true → ts ≡ us
  same_views_are no_views no_views h = refl
  same_views_are (view_then t ts) (view_then u us) h =
      let p = both (same_view t u) (same_views ts us) h in
      let e : t ≡ u = same_view_is t u p.0 in
      let es : ts ≡ us = same_views_are ts us p.1 in
      ap (λ x. view_then x ts) e ∙ ap (view_then u) es
  same_views_are ts us h = absurd (true≢false (sym h))

  same_fields_are : (fs gs : ViewFields) → same_fields fs gs ≡ true → fs ≡ gs
  same_fields_are no_fields no_fields h = refl
  same_fields_are (field_then n t fs) (field_then m u gs) h =
      let p = both (bytes_eq n m) (if same_view t u then same_fields fs gs else false) h in
      let q = both (same_view t u) (same_fields fs gs) p.1 in
      let d : n ≡ m = (bytes_eq-Decides n m).0 p.0 in
      let e : t ≡ u = same_view_is t u q.0 in
      let es : fs ≡ gs = same_fields_are fs gs q.1 in
      ap (λ x. field_then x t fs) d ∙ (ap (λ x. field_then m x fs) e ∙ ap (field_then m u) es)
  same_fields_are fs gs h = absurd (true≢false (sym h))

mutual
  pub same_view_self : (t : ViewTree) → same_view t t ≡ true
  same_view_self (prim v) = same_self v
  same_view_self (list ts) = same_views_self ts
  same_view_self (rec fs) = same_fields_self fs

  same_views_self : (ts : ViewTrees) → same_views ts ts ≡ true
  same_views_self no_views = refl
  same_views_self (view_then t ts) = let a = same_view_self t in let b = same_views_self ts in rw (a, b) refl

  same_fields_self : (fs : ViewFields) → same_fields fs fs ≡ true
  same_fields_self no_fields = refl
  same_fields_self (field_then n t fs) =
      let d : bytes_eq n n ≡ true = (bytes_eq-Decides n n).1 refl in
      let a = same_view_self t in let b = same_fields_self fs in rw (d, a, b) refl

pub same_value_as_equal : (v w : Value) (r : Bool) → r ≡ same v w → IsTrue r ↔ (v ≡ w)
same_value_as_equal v w r e = (λ h. same_is v w (sym e ∙ h), λ h. e ∙ (ap (same v) (sym h) ∙ same_self v))

not_true : (b : Bool) → not b ≡ true → b ≡ true → ⊥
not_true true h e = true≢false (sym h)
not_true false h e = true≢false (sym e)

true_of : (b : Bool) → (b ≡ true → ⊥) → not b ≡ true
true_of true h = absurd (h refl)
true_of false h = refl

-- two snapshots differ exactly where they are not equal
pub differs_as_unequal : (t u : ViewTree) (r : Bool) → r ≡ differs t u → IsTrue r ↔ (t ≡ u → ⊥)
differs_as_unequal t u r e = (
  λ h k. not_true (same_view t u) (sym e ∙ h) (ap (same_view t) (sym k) ∙ same_view_self t),
  λ h. e ∙ true_of (same_view t u) (λ k. h (same_view_is t u k)),
)
