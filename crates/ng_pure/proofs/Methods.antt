-- The methods that change nothing, over values and over the views that these show.
use Rattle.std.proofs.Common.{◌≡◌, ◌∙◌, ◌≤◌, ◌-◌, ℕ, suc, Bool, true, false, List, [], ◌∷◌, ◌++◌, length, map, take, drop, refl, sym, ap, subst, arith, Option, Some, None, slice_get, if◌then◌else◌}
use Rattle.std.specs.Prelude.{Result, Ok, Err}
use Rattle.std.specs.Char.{is_ascii_whitespace, to_ascii_uppercase, to_ascii_lowercase}
use Rattle.ng_base.specs.Meets.{◌>>=◌}
use Rattle.ng_base.specs.Objects.{Object, is_array, StandsAmong}
use Rattle.ng_base.specs.Views.{ViewTree, prim, list, rec, views_list, views_from, fields_list}
use Rattle.ng_base.specs.declared.value.Value.{Value}
use Rattle.ng_base.specs.declared.value.Value.TheVariants as value
use Rattle.ng_base.specs.declared.fault.Fault.{Fault}
use Rattle.ng_base.proofs.ViewLists.{views_list-from}
use Rattle.ng_language.specs.Objects.{items_at}
use Rattle.ng_language.specs.Operators.{strict_eq}
use Rattle.ng_language.specs.Texts.{to_text}
use Rattle.ng_language.specs.Unfolding.{prims}
use Rattle.ng_store.proofs.ObjectReads.{object_is}
use Rattle.ng_members.specs.Callees.{method_of}
use Rattle.ng_members.specs.Members.{view_or_undefined}
use Rattle.ng_base.specs.Trimming.{trimmed}
use Rattle.ng_members.specs.Methods.{is_list, items_of, text_in, place_or_none, place_of, argument, place_at, sliced, parts_of, concatenated, separator, part_text, joined_behind, joined_items, joined, found_from, as_text, method_value}
use Rattle.ng_members.specs.Names.{list_method}
use Rattle.ng_members.specs.declared.methods.Method.{Method}
use Rattle.ng_members.specs.declared.methods.Method.TheVariants as methods
use Rattle.std.specs.List.{IsDistinct}
use Rattle.std.specs.Map.{keys_of}
use Rattle.std.specs.Prelude.{bytes_eq}
use Rattle.ng_write.specs.Reading.{Extends}
use Rattle.ng_write.proofs.Extending.{extends_self}
use Rattle.ng_pure.proofs.Shown.{Grown, Seen, AllSeen, FieldsSeen, ResultBy, OptionBy, all_on, all_append, all_get, all_length, all_take, all_drop, items_seen, old_items}
use Rattle.ng_pure.proofs.Alike.{seen_same}
use Rattle.ng_pure.proofs.Equal.{strict_seen}
use Rattle.ng_pure.proofs.Texts.{text_same}

-- what is stored next: a value, or a list or record of values
abbrev pub Given : ℕ → ℕ → List Object → ViewTree → ViewTree → Type 0
Given n from now (prim v) t = Seen n from now (prim v) t
Given n from now (list us) (list ts) = AllSeen n from now (views_list us) (views_list ts)
Given n from now (list us) (prim w) = ⊥
Given n from now (list us) (rec gs) = ⊥
Given n from now (rec fs) (rec gs) = FieldsSeen n from now (fields_list fs) (fields_list gs) × IsDistinct bytes_eq (keys_of (fields_list gs))
Given n from now (rec fs) (prim w) = ⊥
Given n from now (rec fs) (list ts) = ⊥

abbrev pub GivenResult : ℕ → ℕ → List Object → Result ViewTree Fault → Result ViewTree Fault → Type 0
GivenResult n from now x y = ResultBy (Given n from now) x y

pub given_list : (n from : ℕ) (now : List Object) (us ts : List ViewTree) → AllSeen n from now us ts → Given n from now (list (views_from us)) (list (views_from ts))
given_list n from now us ts s = subst (λ x. AllSeen n from now x (views_list (views_from ts))) (sym (views_list-from us)) (subst (λ y. AllSeen n from now us y) (sym (views_list-from ts)) s)

pub given_seen : (n from : ℕ) (now : List Object) (u t : ViewTree) → Seen n from now u t → Given n from now u t
given_seen n from now (prim v) t s = s
given_seen n from now (list us) t s = absurd s
given_seen n from now (rec fs) t s = absurd s

pub list_same : (from : ℕ) (before now : List Object) → Grown before now → (u t : ViewTree) → Seen (length before) from now u t → is_list now u ≡ is_list before t
list_same from before now g (prim v) (prim w) s = ap (λ x. is_list now (prim x)) s.0 ∙ by w s.1
  where
    by : (w : Value) → StandsAmong (length before) w → is_list now (prim w) ≡ is_list before (prim w)
    by (value.Obj o) h = ap (λ (x : Object). is_array x.kind) (g.unchanged o.0 h)
    by w h = refl
list_same from before now g (prim v) (list ts) s = ap (λ x. is_list now (prim x)) s.2 ∙ ap (λ (x : Object). is_array x.kind) s.5
list_same from before now g (prim v) (rec fs) s = ap (λ x. is_list now (prim x)) s.2 ∙ ap (λ (x : Object). is_array x.kind) s.5
list_same from before now g (list us) t s = absurd s
list_same from before now g (rec fs) t s = absurd s

list_methods : (b c : Bool) (name : List ℕ) → b ≡ c → (if b then list_method name else None) ≡ (if c then list_method name else None)
list_methods b c name e = ap (λ x. if x then list_method name else None) e

-- what a name calls of an array, a fresh list or a text
pub method_same : (from : ℕ) (before now : List Object) → Grown before now → (name : List ℕ) → (u t : ViewTree) → Seen (length before) from now u t → method_of now u name ≡ method_of before t name
method_same from before now g name (prim v) (prim w) s = ap (λ x. method_of now (prim x) name) s.0 ∙ by w (list_same from before now g (prim w) (prim w) (refl, s.1))
  where
    by : (w : Value) → is_list now (prim w) ≡ is_list before (prim w) → method_of now (prim w) name ≡ method_of before (prim w) name
    by (value.Text t) h = refl
    by (value.Obj o) h = list_methods (is_list now (prim (value.Obj o))) (is_list before (prim (value.Obj o))) name h
    by w h = refl
method_same from before now g name (prim v) (list ts) s =
    ap (λ x. method_of now (prim x) name) s.2 ∙ list_methods (is_list now (prim (value.Obj s.0))) true name (ap (λ (x : Object). is_array x.kind) s.5)
method_same from before now g name (prim v) (rec fs) s =
    ap (λ x. method_of now (prim x) name) s.2 ∙ list_methods (is_list now (prim (value.Obj s.0))) false name (ap (λ (x : Object). is_array x.kind) s.5)
method_same from before now g name (list us) t s = absurd s
method_same from before now g name (rec fs) t s = absurd s

-- the items, as they were shown where fewer objects stood
pub items_of_seen : (from : ℕ) (before mid now : List Object) → Grown before now → Extends mid now → (u t : ViewTree) → Seen (length before) from mid u t → AllSeen (length before) from mid (items_of now u) (items_of before t)
items_of_seen from before mid now g k (prim v) (prim w) s = subst (λ x. AllSeen (length before) from mid (items_of now (prim x)) (items_of before (prim w))) (sym s.0) (by w s.1)
  where
    by : (w : Value) → StandsAmong (length before) w → AllSeen (length before) from mid (items_of now (prim w)) (items_of before (prim w))
    by (value.Obj o) h =
        subst (λ (x : Object). AllSeen (length before) from mid (prims x.items) (prims (items_at before o.0))) (sym (g.unchanged o.0 h))
        (old_items (length before) from mid (items_at before o.0) (object_is before o.0 h g.sound).items)
    by w h = tt
items_of_seen from before mid now g k (prim v) (list ts) s =
    subst (λ x. AllSeen (length before) from mid (items_of now (prim x)) (views_list ts)) (sym s.2)
    (subst (λ (x : Object). AllSeen (length before) from mid (prims x.items) (views_list ts)) (sym (k.unchanged s.0.0 s.4 ∙ s.5)) (items_seen (length before) from mid ts s.1 s.6))
items_of_seen from before mid now g k (prim v) (rec fs) s =
    subst (λ x. AllSeen (length before) from mid (items_of now (prim x)) []) (sym s.2)
    (subst (λ (x : Object). AllSeen (length before) from mid (prims x.items) []) (sym (k.unchanged s.0.0 s.4 ∙ s.5)) tt)
items_of_seen from before mid now g k (list us) t s = absurd s
items_of_seen from before mid now g k (rec fs) t s = absurd s

pub given_argument : (n from : ℕ) (now : List Object) (us ts : List ViewTree) (i : ℕ) → AllSeen n from now us ts → Seen n from now (argument us i) (argument ts i)
given_argument n from now us ts i s = by (slice_get us i) (slice_get ts i) (all_get (Seen n from now) i us ts s)
  where
    by : (a b : Option ViewTree) → OptionBy (Seen n from now) a b → Seen n from now (view_or_undefined a) (view_or_undefined b)
    by None None r = (refl, tt)
    by None (Some b) r = absurd r
    by (Some a) None r = absurd r
    by (Some a) (Some b) r = r

place_same : (n from : ℕ) (now : List Object) (m k : ℕ) (u t : ViewTree) → Seen n from now u t → place_at m k u ≡ place_at m k t
place_same n from now m k u t s = seen_same n from now (place_at m k) (λ o ts. refl) (λ o fs. refl) u t s

cut_seen : (n from : ℕ) (now : List Object) (us ts : List ViewTree) (i j k l : ℕ) → i ≡ j → k ≡ l → AllSeen n from now us ts → AllSeen n from now (take i (drop k us)) (take j (drop l ts))
cut_seen n from now us ts i j k l e f s =
    subst (λ a. AllSeen n from now (take a (drop k us)) (take j (drop l ts))) (sym e)
    (subst (λ a. AllSeen n from now (take j (drop a us)) (take j (drop l ts))) (sym f) (all_take (Seen n from now) j (drop l us) (drop l ts) (all_drop (Seen n from now) l us ts s)))

sliced_seen : (n from to : ℕ) (a now : List Object) (us ts vs ws : List ViewTree) → AllSeen n to now vs ws → AllSeen n from a us ts → AllSeen n from a (sliced vs us) (sliced ws ts)
sliced_seen n from to a now us ts vs ws r s =
    let k = length us in
    let e : k ≡ length ts = all_length (Seen n from a) us ts s in
    let start : place_at 0 k (argument vs 0) ≡ place_at 0 (length ts) (argument ws 0) = place_same n to now 0 k (argument vs 0) (argument ws 0) (given_argument n to now vs ws 0 r) ∙ ap (λ m. place_at 0 m (argument ws 0)) e in
    let end : place_at k k (argument vs 1) ≡ place_at (length ts) (length ts) (argument ws 1) = place_same n to now k k (argument vs 1) (argument ws 1) (given_argument n to now vs ws 1 r) ∙ ap (λ m. place_at m m (argument ws 1)) e in
    cut_seen n from a us ts (place_at k k (argument vs 1) - place_at 0 k (argument vs 0)) (place_at (length ts) (length ts) (argument ws 1) - place_at 0 (length ts) (argument ws 0)) (place_at 0 k (argument vs 0)) (place_at 0 (length ts) (argument ws 0))
    (ap (λ m. m - place_at 0 k (argument vs 0)) end ∙ ap (λ m. place_at (length ts) (length ts) (argument ws 1) - m) start) start s

parts_seen : (from : ℕ) (before now : List Object) → Grown before now → (u t : ViewTree) → Seen (length before) from now u t → AllSeen (length before) from now (parts_of now u) (parts_of before t)
parts_seen from before now g u t s = by (is_list now u) (is_list before t) (list_same from before now g u t s)
  where
    by : (b c : Bool) → b ≡ c → AllSeen (length before) from now (if b then items_of now u else u ∷ []) (if c then items_of before t else t ∷ [])
    by true true e = items_of_seen from before now now g (extends_self now) u t s
    by true false e = absurd (cc)
    by false true e = absurd (cc)
    by false false e = (s, tt)

concat_seen : (from : ℕ) (before now : List Object) → Grown before now → (us ts vs ws : List ViewTree) → AllSeen (length before) from now us ts → AllSeen (length before) from now vs ws
    → AllSeen (length before) from now (concatenated now us vs) (concatenated before ts ws)
concat_seen from before now g us ts [] [] s r = s
concat_seen from before now g us ts [] (w ∷ ws) s r = absurd r
concat_seen from before now g us ts (v ∷ vs) [] s r = absurd r
concat_seen from before now g us ts (v ∷ vs) (w ∷ ws) s r =
    concat_seen from before now g (us ++ parts_of now v) (ts ++ parts_of before w) vs ws
    (all_append (Seen (length before) from now) us ts (parts_of now v) (parts_of before w) s (parts_seen from before now g v w r.0)) r.1

part_same : (from : ℕ) (before now : List Object) → Grown before now → (u t : ViewTree) → Seen (length before) from now u t → part_text now u ≡ part_text before t
part_same from before now g (prim v) (prim w) s = ap (λ x. part_text now (prim x)) s.0 ∙ by w (text_same from before now g (prim w) (prim w) (refl, s.1))
  where
    by : (w : Value) → to_text now (prim w) ≡ to_text before (prim w) → part_text now (prim w) ≡ part_text before (prim w)
    by value.Undefined h = refl
    by value.Null h = refl
    by (value.Bool b) h = h
    by (value.Int k) h = h
    by value.Nan h = h
    by (value.Text t) h = h
    by (value.Obj o) h = h
    by (value.Fun f) h = h
part_same from before now g (prim v) (list ts) s = ap (λ x. part_text now (prim x)) s.2 ∙ text_same from before now g (prim (value.Obj s.0)) (list ts) (subst (λ x. Seen (length before) from now (prim x) (list ts)) s.2 s)
part_same from before now g (prim v) (rec fs) s = ap (λ x. part_text now (prim x)) s.2 ∙ text_same from before now g (prim (value.Obj s.0)) (rec fs) (subst (λ x. Seen (length before) from now (prim x) (rec fs)) s.2 s)
part_same from before now g (list us) t s = absurd s
part_same from before now g (rec fs) t s = absurd s

separator_same : (from : ℕ) (before now : List Object) → Grown before now → (u t : ViewTree) → Seen (length before) from now u t → separator now u ≡ separator before t
separator_same from before now g (prim v) (prim w) s = ap (λ x. separator now (prim x)) s.0 ∙ by w (text_same from before now g (prim w) (prim w) (refl, s.1))
  where
    by : (w : Value) → to_text now (prim w) ≡ to_text before (prim w) → separator now (prim w) ≡ separator before (prim w)
    by value.Undefined h = refl
    by value.Null h = h
    by (value.Bool b) h = h
    by (value.Int k) h = h
    by value.Nan h = h
    by (value.Text t) h = h
    by (value.Obj o) h = h
    by (value.Fun f) h = h
separator_same from before now g (prim v) (list ts) s = ap (λ x. separator now (prim x)) s.2 ∙ text_same from before now g (prim (value.Obj s.0)) (list ts) (subst (λ x. Seen (length before) from now (prim x) (list ts)) s.2 s)
separator_same from before now g (prim v) (rec fs) s = ap (λ x. separator now (prim x)) s.2 ∙ text_same from before now g (prim (value.Obj s.0)) (rec fs) (subst (λ x. Seen (length before) from now (prim x) (rec fs)) s.2 s)
separator_same from before now g (list us) t s = absurd s
separator_same from before now g (rec fs) t s = absurd s

then_same : {A B : Type 0} (x y : Result A Fault) (f g : A → Result B Fault) → x ≡ y → ((a : A) → f a ≡ g a) → (x >>= f) ≡ (y >>= g)
then_same x (Ok a) f g e h = ap (λ z. z >>= f) e ∙ h a
then_same x (Err d) f g e h = ap (λ z. z >>= f) e

behind_same : (from : ℕ) (before now : List Object) → Grown before now → (between done : List ℕ) (us ts : List ViewTree) → AllSeen (length before) from now us ts → joined_behind now between done us ≡ joined_behind before between done ts
behind_same from before now g between done [] [] s = refl
behind_same from before now g between done [] (t ∷ ts) s = absurd s
behind_same from before now g between done (u ∷ us) [] s = absurd s
behind_same from before now g between done (u ∷ us) (t ∷ ts) s =
    then_same (part_text now u) (part_text before t) (λ a. joined_behind now between ((done ++ between) ++ a) us) (λ a. joined_behind before between ((done ++ between) ++ a) ts)
    (part_same from before now g u t s.0) (λ a. behind_same from before now g between ((done ++ between) ++ a) us ts s.1)

items_joined : (from : ℕ) (before now : List Object) → Grown before now → (between : List ℕ) (us ts : List ViewTree) → AllSeen (length before) from now us ts → joined_items now between us ≡ joined_items before between ts
items_joined from before now g between [] [] s = refl
items_joined from before now g between [] (t ∷ ts) s = absurd s
items_joined from before now g between (u ∷ us) [] s = absurd s
items_joined from before now g between (u ∷ us) (t ∷ ts) s =
    then_same (part_text now u) (part_text before t) (λ a. joined_behind now between a us) (λ a. joined_behind before between a ts)
    (part_same from before now g u t s.0) (λ a. behind_same from before now g between a us ts s.1)

joined_seen : (from : ℕ) (before now : List Object) → Grown before now → (v w : ViewTree) (us ts : List ViewTree) → Seen (length before) from now v w → AllSeen (length before) from now us ts → joined now v us ≡ joined before w ts
joined_seen from before now g v w us ts r s =
    then_same (separator now v) (separator before w) (λ a. joined_items now a us) (λ a. joined_items before a ts) (separator_same from before now g v w r) (λ a. items_joined from before now g a us ts s)

-- the first item that is the same: what is asked for was evaluated after the items
place_found : (n from to : ℕ) (a b : List Object) → n ≤ from → n ≤ to → length a ≤ to → (x y : ViewTree) → Seen n to b x y → (i : ℕ) (us ts : List ViewTree) → AllSeen n from a us ts → place_of x i us ≡ place_of y i ts
place_found n from to a b h k l x y r i [] [] s = refl
place_found n from to a b h k l x y r i [] (t ∷ ts) s = absurd s
place_found n from to a b h k l x y r i (u ∷ us) [] s = absurd s
place_found n from to a b h k l x y r i (u ∷ us) (t ∷ ts) s =
    ap (λ c. if c then Some i else place_of x (suc i) us) (strict_seen n from to a b h k l u x t y s.0 r)
    ∙ ap (λ o. if strict_eq t y then Some i else o) (place_found n from to a b h k l x y r (suc i) us ts s.1)

text_in_same : (n from : ℕ) (now : List Object) (u t : ViewTree) → Seen n from now u t → text_in u ≡ text_in t
text_in_same n from now u t s = seen_same n from now text_in (λ o ts. refl) (λ o fs. refl) u t s

text_given : (n from : ℕ) (now : List Object) (a b : List ℕ) → a ≡ b → GivenResult n from now (Ok (prim (value.Text a))) (Ok (prim (value.Text b)))
text_given n from now a b e = (ap (λ t. value.Text t) e, tt)

as_text_given : (n from : ℕ) (now : List Object) (x y : Result (List ℕ) Fault) → x ≡ y → GivenResult n from now (as_text x) (as_text y)
as_text_given n from now x (Ok t) e = subst (λ z. GivenResult n from now (as_text z) (Ok (prim (value.Text t)))) (sym e) (refl, tt)
as_text_given n from now x (Err d) e = subst (λ z. GivenResult n from now (as_text z) (Err d)) (sym e) refl

place_given : (n from : ℕ) (now : List Object) (a b : Option ℕ) → a ≡ b → Given n from now (place_or_none a) (place_or_none b)
place_given n from now a None e = subst (λ z. Given n from now (place_or_none z) (place_or_none None)) (sym e) (refl, tt)
place_given n from now a (Some i) e = subst (λ z. Given n from now (place_or_none z) (place_or_none (Some i))) (sym e) (refl, tt)

pub given_then : {A : Type 0} (n from : ℕ) (now : List Object) (x y : Result A Fault) (f g : A → Result ViewTree Fault) → x ≡ y → ((a : A) → GivenResult n from now (f a) (g a)) → GivenResult n from now (x >>= f) (y >>= g)
given_then n from now x (Ok a) f g e h = subst (λ z. GivenResult n from now (z >>= f) (g a)) (sym e) (h a)
given_then n from now x (Err d) f g e h = subst (λ z. GivenResult n from now (z >>= f) (Err d)) (sym e) refl

-- A method on a value: its arguments were evaluated after it.
pub method_given : (from to : ℕ) (before mid now : List Object) → Grown before now → Extends mid now → length before ≤ from → from ≤ to → length mid ≤ to → (m : Method) (u t : ViewTree) (vs ws : List ViewTree)
    → Seen (length before) from mid u t → AllSeen (length before) to now vs ws → GivenResult (length before) from now (method_value now m u vs) (method_value before m t ws)
unfolding method_value
method_given from to before mid now g k a b c m u t vs ws s r = by m
  where
    n : ℕ
    n = length before

    mids : AllSeen n from mid (items_of now u) (items_of before t)
    mids = items_of_seen from before mid now g k u t s

    items : AllSeen n from now (items_of now u) (items_of before t)
    items = all_on n from from mid now k (omega arith) (items_of now u) (items_of before t) mids

    args : AllSeen n from now vs ws
    args = all_on n to from now now (extends_self now) b vs ws r

    first : Seen n from now (argument vs 0) (argument ws 0)
    first = given_argument n from now vs ws 0 args

    by : (m : Method) → GivenResult n from now (method_value now m u vs) (method_value before m t ws)
    by methods.IndexOf =
        place_given n from now (place_of (argument vs 0) 0 (items_of now u)) (place_of (argument ws 0) 0 (items_of before t))
        (place_found n from to mid now (omega arith) (omega arith) c (argument vs 0) (argument ws 0) (given_argument n to now vs ws 0 r) 0 (items_of now u) (items_of before t) mids)
    by methods.Slice = given_list n from now (sliced vs (items_of now u)) (sliced ws (items_of before t)) (sliced_seen n from to now now (items_of now u) (items_of before t) vs ws r items)
    by methods.Concat = given_list n from now (concatenated now (items_of now u) vs) (concatenated before (items_of before t) ws) (concat_seen from before now g (items_of now u) (items_of before t) vs ws items args)
    by methods.Join = as_text_given n from now (joined now (argument vs 0) (items_of now u)) (joined before (argument ws 0) (items_of before t)) (joined_seen from before now g (argument vs 0) (argument ws 0) (items_of now u) (items_of before t) first items)
    by methods.Find =
        given_then n from now (to_text now (argument vs 0)) (to_text before (argument ws 0)) (λ x. Ok (place_or_none (found_from x 0 (text_in u)))) (λ x. Ok (place_or_none (found_from x 0 (text_in t))))
        (text_same from before now g (argument vs 0) (argument ws 0) first)
        (λ x. place_given n from now (found_from x 0 (text_in u)) (found_from x 0 (text_in t)) (ap (found_from x 0) (text_in_same n from mid u t s)))
    by methods.Trim = text_given n from now (trimmed is_ascii_whitespace (text_in u)) (trimmed is_ascii_whitespace (text_in t)) (ap (trimmed is_ascii_whitespace) (text_in_same n from mid u t s))
    by methods.Upper = text_given n from now (map to_ascii_uppercase (text_in u)) (map to_ascii_uppercase (text_in t)) (ap (map to_ascii_uppercase) (text_in_same n from mid u t s))
    by methods.Lower = text_given n from now (map to_ascii_lowercase (text_in u)) (map to_ascii_lowercase (text_in t)) (ap (map to_ascii_lowercase) (text_in_same n from mid u t s))
