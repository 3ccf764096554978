-- What is made of views whose objects stand.
use Rattle.std.proofs.Common.{◌≡◌, ◌∙◌, ℕ, zero, suc, List, [], ◌∷◌, ◌++◌, map, slice_get, Option, Some, None, refl, sym, ap, subst, Bool, true, false, if◌then◌else◌, bytes_eq, ℤ, pos, ◌*ℤ◌, ◌-ℤ◌, ◌+ℤ◌, int_div, int_rem}
use Rattle.std.specs.Prelude.{Result, Ok, Err, IfOk}
use Rattle.std.specs.Ordering.{int_eq}
use Rattle.ng_base.specs.declared.fault.Fault.TheVariants.{NotWhole, Range}
use Rattle.std.specs.List.{AllByRecursion}
use Rattle.std.specs.Map.{lookup}
use Rattle.indexmap.specs.IndexMap.{insert_entry}
use Rattle.ng_base.proofs.Binds.{bind_ok}
use Rattle.ng_base.specs.Faults.{is_memory}
use Rattle.ng_base.specs.Meets.{Gives}
use Rattle.ng_base.specs.Objects.{Object, StandsAmong}
use Rattle.ng_base.specs.Views.{ViewTree, ViewTrees, ViewFields, prim, no_views, view_then, no_fields, field_then, views_list, fields_list, views_from}
use Rattle.ng_base.specs.ViewOf.{view_of, field_of}
use Rattle.ng_base.specs.declared.view.View.{View}
use Rattle.ng_base.specs.declared.value.Value.{Value}
use Rattle.ng_base.specs.declared.value.Value.TheVariants as value
use Rattle.ng_base.specs.declared.fault.Fault.{Fault}
use Rattle.ng_language.specs.Operators.{in_range, of_numbers, sum, difference, product, quotient, remainder, view_num, sub, mul, div, remainder_of, term_num}
use Rattle.ng_language.specs.Numbers.{is_in_range}
use Rattle.ng_language.specs.Sums.{add, joined, as_view, is_undefined, is_joined}
use Rattle.ng_language.specs.Texts.{to_text}
use Rattle.ng_language.specs.Views.{ViewStands, ViewsStand, FieldsStand}
use Rattle.ng_value.proofs.ViewParts.{fields_stand}
use Rattle.ng_members.specs.Members.{view_or_undefined, record_member}
use Rattle.ng_members.specs.Leaves.{Field, FieldsAllStand, Local, LocalsStand}

abbrev pub Named : Type 0
Named = List ℕ × View

map-if : {A B : Type 0} (g : A → B) (b : Bool) (xs ys : List A) → map g (if b then xs else ys) ≡ (if b then map g xs else map g ys)
map-if g true xs ys = refl
map-if g false xs ys = refl

pub map-put : (es : List Named) (name : List ℕ) (v : View) → map field_of (insert_entry bytes_eq es name v) ≡ insert_entry bytes_eq (map field_of es) name (view_of v)
map-put [] name v = refl
map-put (e ∷ es) name v =
    map-if field_of (bytes_eq name e.0) ((e.0, v) ∷ es) (e ∷ insert_entry bytes_eq es name v)
    ∙ ap (λ (xs : List Field). if bytes_eq name e.0 then (e.0, view_of v) ∷ map field_of es else field_of e ∷ xs) (map-put es name v)

-- one more view, and one more field
pub all_more : (n : ℕ) (ts : List ViewTree) (t : ViewTree) → AllByRecursion (ViewStands n) ts → ViewStands n t → AllByRecursion (ViewStands n) (ts ++ t ∷ [])
all_more n [] t a s = (s, tt)
all_more n (u ∷ us) t a s = (a.0, all_more n us t a.1 s)

pub put_stands : (n : ℕ) (fs : List Field) (name : List ℕ) (t : ViewTree) → FieldsAllStand n fs → ViewStands n t → FieldsAllStand n (insert_entry bytes_eq fs name t)
put_stands n [] name t a s = (s, tt)
put_stands n (f ∷ fs) name t a s = by (bytes_eq name f.0) (put_stands n fs name t a.1 s)
  where
    by : (b : Bool) → FieldsAllStand n (insert_entry bytes_eq fs name t) → FieldsAllStand n (if b then (f.0, t) ∷ fs else f ∷ insert_entry bytes_eq fs name t)
    by true m = (s, a.1)
    by false m = (a.0, m)

-- and back into a list and a record
pub views_from_stand : (n : ℕ) (ts : List ViewTree) → AllByRecursion (ViewStands n) ts → ViewsStand n (views_from ts)
views_from_stand n [] a = tt
views_from_stand n (t ∷ ts) a = (a.0, views_from_stand n ts a.1)

pub views_all_stand : (n : ℕ) (ts : ViewTrees) → AllByRecursion (ViewStands n) (views_list ts) → ViewsStand n ts
views_all_stand n no_views a = tt
views_all_stand n (view_then t ts) a = (a.0, views_all_stand n ts a.1)

pub fields_all_stand : (n : ℕ) (fs : ViewFields) → FieldsAllStand n (fields_list fs) → FieldsStand n fs
fields_all_stand n no_fields a = tt
fields_all_stand n (field_then name t fs) a = (a.0, fields_all_stand n fs a.1)

pub one_stands : (n : ℕ) (ts : List ViewTree) (i : ℕ) → AllByRecursion (ViewStands n) ts → ViewStands n (view_or_undefined (slice_get ts i))
one_stands n [] i a = tt
one_stands n (t ∷ ts) zero a = a.0
one_stands n (t ∷ ts) (suc i) a = one_stands n ts i a.1

pub got_stands : (n : ℕ) (ts : List ViewTree) (i : ℕ) (t : ViewTree) → slice_get ts i ≡ Some t → AllByRecursion (ViewStands n) ts → ViewStands n t
got_stands n [] i t h a = absurd (cc)
got_stands n (u ∷ us) zero t h a = let e : u ≡ t = cc in subst (ViewStands n) e a.0
got_stands n (u ∷ us) (suc i) t h a = got_stands n us i t h a.1

looked_stands : (n : ℕ) (fs : List Field) (name : List ℕ) → FieldsAllStand n fs → ViewStands n (view_or_undefined (lookup (bytes_eq name) fs))
looked_stands n [] name a = tt
looked_stands n (f ∷ fs) name a = by (bytes_eq name f.0) (looked_stands n fs name a.1)
  where
    by : (b : Bool) → ViewStands n (view_or_undefined (lookup (bytes_eq name) fs)) → ViewStands n (view_or_undefined (if b then Some f.1 else lookup (bytes_eq name) fs))
    by true m = a.0
    by false m = m

pub record_member_stands : (n : ℕ) (fs : ViewFields) (name : List ℕ) → FieldsStand n fs → ViewStands n (record_member (fields_list fs) name)
record_member_stands n fs name s = looked_stands n (fields_list fs) name (fields_stand n fs s)

-- numbers name no object
abbrev pub Numeric : Result Value Fault → Type 0
Numeric r = (n : ℕ) (v : Value) → r ≡ Ok v → StandsAmong n v

ok_is : {A E : Type 0} (a b : A) → (let x : Result A E = Ok a in let y : Result A E = Ok b in x ≡ y) → a ≡ b
ok_is a b h = cc

in_range_numeric : (k : ℤ) → Numeric (in_range k)
in_range_numeric k = by (is_in_range k)
  where
    by : (b : Bool) → Numeric (if b then Ok (value.Int k) else Err Range)
    by true n v h = subst (StandsAmong n) (ok_is (value.Int k) v h) tt
    by false n v h = absurd (cc)

if_numeric : (b : Bool) (r s : Result Value Fault) → Numeric r → Numeric s → Numeric (if b then r else s)
if_numeric true r s p q = p
if_numeric false r s p q = q

err_numeric : (e : Fault) → Numeric (Err e)
err_numeric e n v h = absurd (cc)

nan_numeric : Numeric (Ok value.Nan)
nan_numeric n v h = subst (StandsAmong n) (ok_is value.Nan v h) tt

of_numbers_numeric : (f : ℤ → ℤ → Result Value Fault) → ((a b : ℤ) → Numeric (f a b)) → (x y : Option ℤ) → Numeric (of_numbers f x y)
of_numbers_numeric f p (Some a) (Some b) = p a b
of_numbers_numeric f p (Some a) None = nan_numeric
of_numbers_numeric f p None y = nan_numeric

pub mul_stands : (t u : ViewTree) → Numeric (mul t u)
mul_stands t u = of_numbers_numeric product (λ a b. in_range_numeric (a *ℤ b)) (view_num t) (view_num u)

pub sub_stands : (t u : ViewTree) → Numeric (sub t u)
sub_stands t u = of_numbers_numeric difference (λ a b. in_range_numeric (a -ℤ b)) (term_num t) (term_num u)

quotient_numeric : (m n : ℤ) → Numeric (quotient m n)
quotient_numeric m n =
    if_numeric (int_eq n (pos 0)) (Err NotWhole) (if int_eq (int_rem m n) (pos 0) then in_range (int_div m n) else Err NotWhole) (err_numeric NotWhole)
    (if_numeric (int_eq (int_rem m n) (pos 0)) (in_range (int_div m n)) (Err NotWhole) (in_range_numeric (int_div m n)) (err_numeric NotWhole))

remainder_numeric : (m n : ℤ) → Numeric (remainder m n)
remainder_numeric m n = if_numeric (int_eq n (pos 0)) (Err NotWhole) (in_range (int_rem m n)) (err_numeric NotWhole) (in_range_numeric (int_rem m n))

pub div_stands : (t u : ViewTree) → Numeric (div t u)
div_stands t u = of_numbers_numeric quotient quotient_numeric (view_num t) (view_num u)

pub rem_stands : (t u : ViewTree) → Numeric (remainder_of t u)
rem_stands t u = of_numbers_numeric remainder remainder_numeric (view_num t) (view_num u)

sum_stands : (t u : ViewTree) → Numeric (of_numbers sum (view_num t) (view_num u))
sum_stands t u = of_numbers_numeric sum (λ a b. in_range_numeric (a +ℤ b)) (view_num t) (view_num u)

as_view_stands : (r : Result Value Fault) → Numeric r → (n : ℕ) (w : ViewTree) → as_view r ≡ Ok w → ViewStands n w
as_view_stands (Ok v) p n w h = subst (ViewStands n) (ok_is (prim v) w h) (p n v refl)
as_view_stands (Err e) p n w h = absurd (cc)

joined_stands : (objects : List Object) (t u : ViewTree) (n : ℕ) (w : ViewTree) → joined objects t u ≡ Ok w → ViewStands n w
joined_stands objects t u n w h =
    let p = bind_ok (to_text objects t) _ w h in
    let q = bind_ok (to_text objects u) _ w p.2 in
    subst (ViewStands n) (ok_is (prim (value.Text (p.0 ++ q.0))) w q.2) tt

pub add_stands : (objects : List Object) (t u : ViewTree) (n : ℕ) (w : ViewTree) → ViewStands n t → ViewStands n u → add objects t u ≡ Ok w → ViewStands n w
add_stands objects t u n w s r h = first (is_undefined t) (is_undefined u) (is_joined t) (is_joined u) h
  where
    first : (a b c d : Bool)
        → (if a then Ok u else (if b then Ok t else (if c then joined objects t u else (if d then joined objects t u else as_view (of_numbers sum (view_num t) (view_num u)))))) ≡ Ok w → ViewStands n w
    first true b c d k = subst (ViewStands n) (ok_is u w k) r
    first false true c d k = subst (ViewStands n) (ok_is t w k) s
    first false false true d k = joined_stands objects t u n w k
    first false false false true k = joined_stands objects t u n w k
    first false false false false k = as_view_stands (of_numbers sum (view_num t) (view_num u)) (sum_stands t u) n w k

local_step : (n : ℕ) (l : Local) (rest : Option Value) (v : Value) (b : Bool) → StandsAmong n l.1 → (rest ≡ Some v → StandsAmong n v) → (if b then Some l.1 else rest) ≡ Some v → StandsAmong n v
local_step n l rest v true s more h = let e : l.1 ≡ v = cc in subst (StandsAmong n) e s
local_step n l rest v false s more h = more h

pub local_stands : (n : ℕ) (ls : List Local) (name : List ℕ) (v : Value) → lookup (bytes_eq name) ls ≡ Some v → LocalsStand n ls → StandsAmong n v
local_stands n [] name v h a = absurd (cc)
local_stands n (l ∷ ls) name v h a = local_step n l (lookup (bytes_eq name) ls) v (bytes_eq name l.0) a.0 (λ k. local_stands n ls name v k a.1) h

-- what holds of a view holds of its copy
pub carried : {E : Type 0} (n : ℕ) (r : Result View E) (t : ViewTree) → IfOk r (λ v. view_of v ≡ t) → ViewStands n t → IfOk r (λ v. ViewStands n (view_of v))
carried n (Ok v) t h s = subst (ViewStands n) (sym h) s
carried n (Err e) t h s = tt

-- what stands wherever it is asked for stands where it is given
pub given_stands : (n : ℕ) (r : Result View Fault) (asked : Result ViewTree Fault) → Gives is_memory view_of asked r → ((w : ViewTree) → asked ≡ Ok w → ViewStands n w) → IfOk r (λ v. ViewStands n (view_of v))
given_stands n (Ok v) asked g s = s (view_of v) g
given_stands n (Err e) asked g s = tt
