-- The filters over values, and over the views that these show.
use Rattle.std.proofs.Common.{◌≡◌, ◌∙◌, ◌-◌, ℕ, ℤ, List, [], ◌++◌, length, drop, refl, sym, ap, subst, Option, Some, None}
use Rattle.ng_base.specs.Objects.{Object, object_at, StandsAmong}
use Rattle.ng_base.specs.Views.{ViewTree, prim, list, rec, views_list, views_from}
use Rattle.ng_base.specs.declared.value.Value.{Value}
use Rattle.ng_base.specs.declared.value.Value.TheVariants as value
use Rattle.ng_base.specs.declared.heap.ObjKind.{ObjKind}
use Rattle.ng_base.specs.declared.heap.ObjKind.TheVariants as kinds
use Rattle.ng_language.specs.Operators.{number_in}
use Rattle.ng_language.specs.Texts.{value_text}
use Rattle.ng_language.specs.Unfolding.{prims}
use Rattle.ng_filters.specs.Casing.{uppercase, lowercase}
use Rattle.ng_filters.specs.Numbers.{number, fraction, formatted, grouped_number}
use Rattle.ng_filters.specs.Limits.{whole, begin_at, window, between, part, part_of_primitive, part_by, limited_by, limited}
use Rattle.ng_filters.specs.Parts.{shape_of, shape_of_object, items}
use Rattle.ng_store.proofs.ObjectReads.{object_is}
use Rattle.ng_pure.proofs.Shown.{Grown, Seen, AllSeen, all_length, all_take, all_drop, items_seen, old_items}
use Rattle.ng_pure.proofs.Alike.{seen_same}
use Rattle.ng_pure.proofs.Methods.{Given, given_list, given_seen}

pub upper_seen : (n from : ℕ) (now : List Object) (u t : ViewTree) → Seen n from now u t → Seen n from now (uppercase u) (uppercase t)
upper_seen n from now (prim v) (prim w) s = subst (λ x. Seen n from now (uppercase (prim x)) (uppercase (prim w))) (sym s.0) (by w s.1)
  where
    by : (w : Value) → StandsAmong n w → Seen n from now (uppercase (prim w)) (uppercase (prim w))
    by (value.Text t) h = (refl, tt)
    by w h = (refl, h)
upper_seen n from now (prim v) (list ts) s = subst (λ x. Seen n from now (uppercase (prim x)) (list ts)) (sym s.2) (subst (λ x. Seen n from now (prim x) (list ts)) s.2 s)
upper_seen n from now (prim v) (rec fs) s = subst (λ x. Seen n from now (uppercase (prim x)) (rec fs)) (sym s.2) (subst (λ x. Seen n from now (prim x) (rec fs)) s.2 s)
upper_seen n from now (list us) t s = absurd s
upper_seen n from now (rec fs) t s = absurd s

pub lower_seen : (n from : ℕ) (now : List Object) (u t : ViewTree) → Seen n from now u t → Seen n from now (lowercase u) (lowercase t)
lower_seen n from now (prim v) (prim w) s = subst (λ x. Seen n from now (lowercase (prim x)) (lowercase (prim w))) (sym s.0) (by w s.1)
  where
    by : (w : Value) → StandsAmong n w → Seen n from now (lowercase (prim w)) (lowercase (prim w))
    by (value.Text t) h = (refl, tt)
    by w h = (refl, h)
lower_seen n from now (prim v) (list ts) s = subst (λ x. Seen n from now (lowercase (prim x)) (list ts)) (sym s.2) (subst (λ x. Seen n from now (prim x) (list ts)) s.2 s)
lower_seen n from now (prim v) (rec fs) s = subst (λ x. Seen n from now (lowercase (prim x)) (rec fs)) (sym s.2) (subst (λ x. Seen n from now (prim x) (rec fs)) s.2 s)
lower_seen n from now (list us) t s = absurd s
lower_seen n from now (rec fs) t s = absurd s

formatted_size : (n : Option ℤ) (x y : ViewTree) → fraction x ≡ fraction y → formatted n x ≡ formatted n y
formatted_size None x y e = refl
formatted_size (Some n) x y e = ap (λ f. grouped_number n ++ f) e

number_size : (t x y : ViewTree) → fraction x ≡ fraction y → number t x ≡ number t y
number_size (prim (value.Int n)) x y e = ap (λ f. prim (value.Text f)) (formatted_size (Some n) x y e)
number_size (prim (value.Text t)) x y e = ap (λ f. prim (value.Text f)) (formatted_size (number_in t) x y e)
number_size t x y e = refl

number_stands : (n from : ℕ) (now : List Object) (t y : ViewTree) → Seen n from now (number t y) (number t y)
number_stands n from now (prim value.Undefined) y = (refl, tt)
number_stands n from now (prim value.Null) y = (refl, tt)
number_stands n from now (prim (value.Int k)) y = (refl, tt)
number_stands n from now (prim (value.Text t)) y = (refl, tt)
number_stands n from now t y = (refl, tt)

pub number_seen : (n from : ℕ) (now : List Object) (u t x y : ViewTree) → Seen n from now u t → Seen n from now x y → Seen n from now (number u x) (number t y)
number_seen n from now u t x y s r =
    subst (λ z. Seen n from now z (number t y))
    (sym (seen_same n from now (λ z. number z x) (λ o ts. refl) (λ o fs. refl) u t s ∙ number_size t x y (seen_same n from now fraction (λ o ts. refl) (λ o fs. refl) x y r)))
    (number_stands n from now t y)

pub shape_same : (from : ℕ) (before now : List Object) → Grown before now → (u t : ViewTree) → Seen (length before) from now u t → shape_of now u ≡ shape_of before t
shape_same from before now g (prim v) (prim w) s = ap (λ x. shape_of now (prim x)) s.0 ∙ by w s.1
  where
    by : (w : Value) → StandsAmong (length before) w → shape_of now (prim w) ≡ shape_of before (prim w)
    by (value.Obj o) h = ap (λ (x : Object). shape_of_object x.kind) (g.unchanged o.0 h)
    by w h = refl
shape_same from before now g (prim v) (list ts) s = ap (λ x. shape_of now (prim x)) s.2 ∙ ap (λ (x : Object). shape_of_object x.kind) s.5
shape_same from before now g (prim v) (rec fs) s = ap (λ x. shape_of now (prim x)) s.2 ∙ ap (λ (x : Object). shape_of_object x.kind) s.5
shape_same from before now g (list us) t s = absurd s
shape_same from before now g (rec fs) t s = absurd s

pub items_shown : (from : ℕ) (before now : List Object) → Grown before now → (u t : ViewTree) → Seen (length before) from now u t → AllSeen (length before) from now (items now u) (items before t)
items_shown from before now g (prim v) (prim w) s = subst (λ x. AllSeen (length before) from now (items now (prim x)) (items before (prim w))) (sym s.0) (by w s.1)
  where
    by : (w : Value) → StandsAmong (length before) w → AllSeen (length before) from now (items now (prim w)) (items before (prim w))
    by (value.Obj o) h =
        subst (λ (x : Object). AllSeen (length before) from now (prims x.items) (prims (object_at before o.0).items)) (sym (g.unchanged o.0 h))
        (old_items (length before) from now (object_at before o.0).items (object_is before o.0 h g.sound).items)
    by w h = tt
items_shown from before now g (prim v) (list ts) s =
    subst (λ x. AllSeen (length before) from now (items now (prim x)) (views_list ts)) (sym s.2)
    (subst (λ (x : Object). AllSeen (length before) from now (prims x.items) (views_list ts)) (sym s.5) (items_seen (length before) from now ts s.1 s.6))
items_shown from before now g (prim v) (rec fs) s =
    subst (λ x. AllSeen (length before) from now (items now (prim x)) []) (sym s.2)
    (subst (λ (x : Object). AllSeen (length before) from now (prims x.items) []) (sym s.5) tt)
items_shown from before now g (list us) t s = absurd s
items_shown from before now g (rec fs) t s = absurd s

-- what holds of an array's shape, and of that of a plain object, holds of the shape of any kind
pub of_kind : {S : Type 0} (f : ObjKind → S) (F : S → Type 0) → F (f kinds.Array) → F (f kinds.Plain) → (f kinds.Scope ≡ f kinds.Plain) → (f kinds.Event ≡ f kinds.Plain) → (k : ObjKind) → F (f k)
of_kind f F a p e d kinds.Array = a
of_kind f F a p e d kinds.Plain = p
of_kind f F a p e d kinds.Scope = subst F (sym e) p
of_kind f F a p e d kinds.Event = subst F (sym d) p

whole_same : (n from : ℕ) (now : List Object) (u t : ViewTree) → Seen n from now u t → whole u ≡ whole t
whole_same n from now u t s = seen_same n from now whole (λ o ts. refl) (λ o fs. refl) u t s

abbrev cut : {A : Type 0} → ℤ → Option ℤ → List A → List A
cut n b xs = between (window n (begin_at b (length xs)) (length xs)) xs

part_seen : (n from : ℕ) (now : List Object) (k : ℤ) (x y : ViewTree) (us ts : List ViewTree) → whole x ≡ whole y → AllSeen n from now us ts → AllSeen n from now (part k x us) (part k y ts)
part_seen n from now k x y us ts e s =
    let w = window k (begin_at (whole y) (length ts)) (length ts) in
    let same : window k (begin_at (whole x) (length us)) (length us) ≡ w = ap (λ b. window k (begin_at b (length us)) (length us)) e ∙ ap (λ m. window k (begin_at (whole y) m) m) (all_length (Seen n from now) us ts s) in
    subst (λ v. AllSeen n from now (between v us) (between w ts)) (sym same) (all_take (Seen n from now) (w.1 - w.0) (drop w.0 us) (drop w.0 ts) (all_drop (Seen n from now) w.0 us ts s))

primitive_part : (n from : ℕ) (now : List Object) (k : ℤ) (x y u t : ViewTree) → whole x ≡ whole y → Seen n from now u t → Seen n from now (part_of_primitive k x u) (part_of_primitive k y t)
primitive_part n from now k x y (prim v) (prim w) e s = subst (λ z. Seen n from now (part_of_primitive k x (prim z)) (part_of_primitive k y (prim w))) (sym s.0) (by w s.1)
  where
    by : (w : Value) → StandsAmong n w → Seen n from now (part_of_primitive k x (prim w)) (part_of_primitive k y (prim w))
    by (value.Text t) h = (ap (λ b. value.Text (cut k b t)) e, tt)
    by (value.Int m) h = (ap (λ b. value.Text (cut k b (value_text (value.Int m)))) e, tt)
    by value.Nan h = (ap (λ b. value.Text (cut k b (value_text value.Nan))) e, tt)
    by w h = (refl, h)
primitive_part n from now k x y (prim v) (list ts) e s = subst (λ z. Seen n from now (part_of_primitive k x (prim z)) (list ts)) (sym s.2) (subst (λ z. Seen n from now (prim z) (list ts)) s.2 s)
primitive_part n from now k x y (prim v) (rec fs) e s = subst (λ z. Seen n from now (part_of_primitive k x (prim z)) (rec fs)) (sym s.2) (subst (λ z. Seen n from now (prim z) (rec fs)) s.2 s)
primitive_part n from now k x y (list us) t e s = absurd s
primitive_part n from now k x y (rec fs) t e s = absurd s

pub limited_given : (from : ℕ) (before now : List Object) → Grown before now → (u t l m b c : ViewTree) → Seen (length before) from now u t → Seen (length before) from now l m → Seen (length before) from now b c
    → Given (length before) from now (limited now u l b) (limited before t m c)
limited_given from before now g u t l m b c s r q =
    subst (λ w. Given n from now (limited_by w now u b) (limited_by (whole m) before t c)) (sym (whole_same n from now l m r)) (by (whole m))
  where
    n : ℕ
    n = length before

    begins : whole b ≡ whole c
    begins = whole_same n from now b c q

    primitive : (t : ViewTree) → Seen n from now u t → (k : ℤ) → Given n from now (part_of_primitive k b u) (part_of_primitive k c t)
    primitive t s k = given_seen n from now (part_of_primitive k b u) (part_of_primitive k c t) (primitive_part n from now k b c u t begins s)

    listed : (t : ViewTree) → Seen n from now u t → (k : ℤ) → Given n from now (list (views_from (part k b (items now u)))) (list (views_from (part k c (items before t))))
    listed t s k = given_list n from now (part k b (items now u)) (part k c (items before t)) (part_seen n from now k b c (items now u) (items before t) begins (items_shown from before now g u t s))

    shaped : (k : ℤ) (t : ViewTree) → Seen n from now u t → Given n from now (part_by (shape_of before t) now k b u) (part_by (shape_of before t) before k c t)
    shaped k (prim (value.Obj o)) s =
        of_kind shape_of_object (λ x. Given n from now (part_by x now k b u) (part_by x before k c (prim (value.Obj o)))) (listed (prim (value.Obj o)) s k) (primitive (prim (value.Obj o)) s k) refl refl (object_at before o.0).kind
    shaped k (prim w) s = primitive (prim w) s k
    shaped k (list ts) s = listed (list ts) s k
    shaped k (rec fs) s = primitive (rec fs) s k

    by : (w : Option ℤ) → Given n from now (limited_by w now u b) (limited_by w before t c)
    by None = given_seen n from now u t s
    by (Some k) = subst (λ x. Given n from now (part_by x now k b u) (part_by (shape_of before t) before k c t)) (sym (shape_same from before now g u t s)) (shaped k t s)
