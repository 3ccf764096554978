-- Values that show views, while objects are made, in lists and in records.
use Rattle.std.proofs.Common.{◌≡◌, ◌∙◌, ◌<◌, ◌≤◌, ℕ, zero, suc, List, [], ◌∷◌, ◌++◌, length, refl, ap, arith, take, drop, slice_get, Option, Some, None}
use Rattle.std.specs.Prelude.{Result, Ok, Err}
use Rattle.std.specs.List.{AllByRecursion}
use Rattle.ng_base.specs.Objects.{Object, object_at, StandsAmong}
use Rattle.ng_base.specs.Views.{ViewTree, ViewTrees, ViewFields, prim, list, rec, no_views, view_then, no_fields, field_then, views_list}
use Rattle.ng_base.specs.declared.value.Value.{Value}
use Rattle.ng_base.specs.declared.fault.Fault.{Fault}
use Rattle.ng_language.specs.Objects.{AreObjects}
use Rattle.ng_language.specs.Unfolding.{prims, Field}
use Rattle.ng_write.specs.Reading.{Extends}
use Rattle.ng_pure.specs.Showing.{Shows, ItemsShow, NamesShow}

-- the objects that stood before are those of a store, and those that stand now extend them
pub record Grown (before now : List Object) : Type 0 where
  pub sound : AreObjects before
  pub no_fewer : length before ≤ length now
  pub unchanged : (q : ℕ) → q < length before → object_at now q ≡ object_at before q

pub grown_on : (before mid now : List Object) → Grown before mid → Extends mid now → Grown before now
grown_on before mid now g e = record {
  sound = g.sound;
  no_fewer = (let x : length before ≤ length mid = g.no_fewer in let y : length mid ≤ length now = e.no_fewer in omega arith);
  unchanged = λ q h.
      let x : length before ≤ length mid = g.no_fewer in
      let k : q < length mid = omega arith in
      e.unchanged q k ∙ g.unchanged q h;
}

-- a view of a run shows one of evaluation
abbrev pub Seen : ℕ → ℕ → List Object → ViewTree → ViewTree → Type 0
Seen n from now (prim v) t = Shows n from now v t
Seen n from now (list us) t = ⊥
Seen n from now (rec fs) t = ⊥

-- as many, and each as it is to be to the one at its place
abbrev pub AllBy : {A B : Type 0} → (A → B → Type 0) → List A → List B → Type 0
AllBy R [] [] = Unit {0}
AllBy R [] (b ∷ bs) = ⊥
AllBy R (a ∷ xs) [] = ⊥
AllBy R (a ∷ xs) (b ∷ bs) = R a b × AllBy R xs bs

abbrev pub AllSeen : ℕ → ℕ → List Object → List ViewTree → List ViewTree → Type 0
AllSeen n from now us ts = AllBy (Seen n from now) us ts

abbrev pub FieldSeen : ℕ → ℕ → List Object → Field → Field → Type 0
FieldSeen n from now f g = (f.0 ≡ g.0) × Seen n from now f.1 g.1

abbrev pub FieldsSeen : ℕ → ℕ → List Object → List Field → List Field → Type 0
FieldsSeen n from now fs gs = AllBy (FieldSeen n from now) fs gs

-- the same fault, or both an answer
abbrev pub ResultBy : {A B : Type 0} → (A → B → Type 0) → Result A Fault → Result B Fault → Type 0
ResultBy R (Ok a) (Ok b) = R a b
ResultBy R (Ok a) (Err e) = ⊥
ResultBy R (Err d) (Ok b) = ⊥
ResultBy R (Err d) (Err e) = d ≡ e

-- what is shown is shown still when more objects stand, and from an earlier place on
mutual
  pub shows_on : (n from to : ℕ) (a b : List Object) → Extends a b → to ≤ from → (t : ViewTree) (v : Value) → Shows n from a v t → Shows n to b v t
  shows_on n from to a b k h (prim w) v s = s
  shows_on n from to a b k h (list ts) v (o, items, is, low, high, x, r) =
      (o, items, is, omega arith, (let m : length a ≤ length b = k.no_fewer in omega arith), k.unchanged o.0 high ∙ x, items_on n from to a b k h ts items r)
  shows_on n from to a b k h (rec fs) v (o, ps, is, low, high, x, d, r) =
      (o, ps, is, omega arith, (let m : length a ≤ length b = k.no_fewer in omega arith), k.unchanged o.0 high ∙ x, d, names_on n from to a b k h fs ps r)

  pub items_on : (n from to : ℕ) (a b : List Object) → Extends a b → to ≤ from → (ts : ViewTrees) (vs : List Value) → ItemsShow n from a vs ts → ItemsShow n to b vs ts
  items_on n from to a b k h no_views [] r = tt
  items_on n from to a b k h (view_then t ts) [] r = absurd r
  items_on n from to a b k h no_views (v ∷ vs) r = absurd r
  items_on n from to a b k h (view_then t ts) (v ∷ vs) r = (shows_on n from to a b k h t v r.0, items_on n from to a b k h ts vs r.1)

  pub names_on : (n from to : ℕ) (a b : List Object) → Extends a b → to ≤ from → (fs : ViewFields) (ps : List (List ℕ × Value)) → NamesShow n from a ps fs → NamesShow n to b ps fs
  names_on n from to a b k h no_fields [] r = tt
  names_on n from to a b k h (field_then name t fs) [] r = absurd r
  names_on n from to a b k h no_fields (p ∷ ps) r = absurd r
  names_on n from to a b k h (field_then name t fs) (p ∷ ps) r = (r.0, shows_on n from to a b k h t p.1 r.1, names_on n from to a b k h fs ps r.2)

pub seen_on : (n from to : ℕ) (a b : List Object) → Extends a b → to ≤ from → (u t : ViewTree) → Seen n from a u t → Seen n to b u t
seen_on n from to a b k h (prim v) t s = shows_on n from to a b k h t v s
seen_on n from to a b k h (list us) t s = s
seen_on n from to a b k h (rec fs) t s = s

pub all_through : {A B : Type 0} (R Q : A → B → Type 0) → ((a : A) (b : B) → R a b → Q a b) → (xs : List A) (bs : List B) → AllBy R xs bs → AllBy Q xs bs
all_through R Q f [] [] s = tt
all_through R Q f [] (b ∷ bs) s = s
all_through R Q f (a ∷ xs) [] s = s
all_through R Q f (a ∷ xs) (b ∷ bs) s = (f a b s.0, all_through R Q f xs bs s.1)

pub all_on : (n from to : ℕ) (a b : List Object) → Extends a b → to ≤ from → (us ts : List ViewTree) → AllSeen n from a us ts → AllSeen n to b us ts
all_on n from to a b k h us ts s = all_through (Seen n from a) (Seen n to b) (seen_on n from to a b k h) us ts s

pub fields_on : (n from to : ℕ) (a b : List Object) → Extends a b → to ≤ from → (us ts : List Field) → FieldsSeen n from a us ts → FieldsSeen n to b us ts
fields_on n from to a b k h us ts s = all_through (FieldSeen n from a) (FieldSeen n to b) (λ f g r. (r.0, seen_on n from to a b k h f.1 g.1 r.1)) us ts s

-- the items of an array that was made, as views
pub items_seen : (n from : ℕ) (now : List Object) (ts : ViewTrees) (vs : List Value) → ItemsShow n from now vs ts → AllSeen n from now (prims vs) (views_list ts)
items_seen n from now no_views [] r = tt
items_seen n from now (view_then t ts) [] r = absurd r
items_seen n from now no_views (v ∷ vs) r = absurd r
items_seen n from now (view_then t ts) (v ∷ vs) r = (r.0, items_seen n from now ts vs r.1)

-- two lists one behind the other
pub all_append : {A B : Type 0} (R : A → B → Type 0) (us : List A) (ts : List B) (xs : List A) (ys : List B) → AllBy R us ts → AllBy R xs ys → AllBy R (us ++ xs) (ts ++ ys)
all_append R [] [] xs ys s r = r
all_append R [] (t ∷ ts) xs ys s r = absurd s
all_append R (u ∷ us) [] xs ys s r = absurd s
all_append R (u ∷ us) (t ∷ ts) xs ys s r = (s.0, all_append R us ts xs ys s.1 r)

pub one_more : {A B : Type 0} (R : A → B → Type 0) (us : List A) (ts : List B) (u : A) (t : B) → AllBy R us ts → R u t → AllBy R (us ++ u ∷ []) (ts ++ t ∷ [])
one_more R us ts u t s r = all_append R us ts (u ∷ []) (t ∷ []) s (r, tt)

-- as many on both sides
pub all_length : {A B : Type 0} (R : A → B → Type 0) (us : List A) (ts : List B) → AllBy R us ts → length us ≡ length ts
all_length R [] [] s = refl
all_length R [] (t ∷ ts) s = absurd s
all_length R (u ∷ us) [] s = absurd s
all_length R (u ∷ us) (t ∷ ts) s = ap suc (all_length R us ts s.1)

pub all_take : {A B : Type 0} (R : A → B → Type 0) (k : ℕ) (us : List A) (ts : List B) → AllBy R us ts → AllBy R (take k us) (take k ts)
all_take R zero [] [] s = tt
all_take R zero [] (t ∷ ts) s = absurd s
all_take R zero (u ∷ us) [] s = absurd s
all_take R zero (u ∷ us) (t ∷ ts) s = tt
all_take R (suc k) [] [] s = tt
all_take R (suc k) [] (t ∷ ts) s = absurd s
all_take R (suc k) (u ∷ us) [] s = absurd s
all_take R (suc k) (u ∷ us) (t ∷ ts) s = (s.0, all_take R k us ts s.1)

pub all_drop : {A B : Type 0} (R : A → B → Type 0) (k : ℕ) (us : List A) (ts : List B) → AllBy R us ts → AllBy R (drop k us) (drop k ts)
all_drop R zero [] [] s = tt
all_drop R zero [] (t ∷ ts) s = absurd s
all_drop R zero (u ∷ us) [] s = absurd s
all_drop R zero (u ∷ us) (t ∷ ts) s = s
all_drop R (suc k) [] [] s = tt
all_drop R (suc k) [] (t ∷ ts) s = absurd s
all_drop R (suc k) (u ∷ us) [] s = absurd s
all_drop R (suc k) (u ∷ us) (t ∷ ts) s = all_drop R k us ts s.1

-- what stands at a place, on both sides or on neither
abbrev pub OptionBy : {A B : Type 0} → (A → B → Type 0) → Option A → Option B → Type 0
OptionBy R None None = Unit {0}
OptionBy R None (Some b) = ⊥
OptionBy R (Some a) None = ⊥
OptionBy R (Some a) (Some b) = R a b

pub all_get : {A B : Type 0} (R : A → B → Type 0) (k : ℕ) (us : List A) (ts : List B) → AllBy R us ts → OptionBy R (slice_get us k) (slice_get ts k)
all_get R k [] [] s = tt
all_get R k [] (t ∷ ts) s = absurd s
all_get R k (u ∷ us) [] s = absurd s
all_get R zero (u ∷ us) (t ∷ ts) s = s.0
all_get R (suc k) (u ∷ us) (t ∷ ts) s = all_get R k us ts s.1

-- values of before, as the items or the named values of an object of before
pub old_items : (n from : ℕ) (now : List Object) (vs : List Value) → AllByRecursion (StandsAmong n) vs → AllSeen n from now (prims vs) (prims vs)
old_items n from now [] a = tt
old_items n from now (v ∷ vs) a = ((refl, a.0), old_items n from now vs a.1)
