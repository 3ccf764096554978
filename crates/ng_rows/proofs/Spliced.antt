-- What is planned where entries came or rows went at one place alone: the keys before it and behind it are as they were.
use Rattle.std.proofs.Common.{◌≡◌, ◌+◌, ◌-◌, ◌<◌, ◌≤◌, ◌∙◌, ℕ, suc, Bool, true, false, true≢false, cond, not, List, [], ◌∷◌, ◌++◌, length, length-drop, length-take-le, take-append-drop, drop-drop, map, take, drop, get_or, Option, None, Some, Result, Ok, Err, refl, ap, sym, arith}
use Rattle.std.specs.Prelude.{◌||◌}
use Rattle.std.specs.List.{list_any, position_from}
use Rattle.std.proofs.Math.Path.{fun_ext}
use Rattle.std.proofs.lemmas.Iterator.Adapters.{position_from-zero}
use Rattle.std.proofs.lemmas.List.{append-nil, append_assoc, drop_all, drop_more, map-append, take_more}
use Rattle.std.proofs.lemmas.List.Folds.{list_any-append}
use Rattle.ng_blocks.specs.Places.{places_from}
use Rattle.ng_blocks.specs.Plans.{gone_places, has_double, is_among, planned, row_of}
use Rattle.ng_blocks.specs.SameKeys.{same_key, same_key-Decides, same_key_equiv}
use Rattle.ng_blocks.specs.declared.keys.TrackKey.{TrackKey}
use Rattle.ng_blocks.specs.declared.plans.Plan.{Plan}
use Rattle.ng_blocks.specs.declared.plans.PlanFault.{PlanFault}
use Rattle.ng_blocks.specs.declared.plans.PlanFault.TheVariants.{Dupes}
use Rattle.ng_rows.specs.Splices.{IsPlan, no_sources, places_on, sources_on}

parts_false : (a b : Bool) → (a || b) ≡ false → (a ≡ false) × (b ≡ false)
parts_false true b h = absurd (cc)
parts_false false b h = (refl, h)

none_true : (a b : Bool) → a ≡ false → b ≡ false → (a || b) ≡ false
none_true true b h i = absurd (cc)
none_true false b h i = i

first_true : (a b : Bool) → a ≡ true → (a || b) ≡ true
first_true true b h = refl
first_true false b h = absurd (cc)

second_true : (a b : Bool) → b ≡ true → (a || b) ≡ true
second_true true b h = refl
second_true false b h = h

-- ---- keys that come between others

any_parts : (f : TrackKey → Bool) (xs ys : List TrackKey) → list_any f (xs ++ ys) ≡ false → (list_any f xs ≡ false) × (list_any f ys ≡ false)
any_parts f xs ys h = parts_false (list_any f xs) (list_any f ys) (sym (list_any-append f xs ys) ∙ h)

any_cut : (f : TrackKey → Bool) (ps xs ss : List TrackKey) → list_any f (ps ++ (xs ++ ss)) ≡ false → list_any f (ps ++ ss) ≡ false
any_cut f ps xs ss h =
    let a = any_parts f ps (xs ++ ss) h in
    let b = any_parts f xs ss a.1 in
    list_any-append f ps ss ∙ none_true (list_any f ps) (list_any f ss) a.0 b.1

apart_first : (k : TrackKey) (ks : List TrackKey) → has_double (k ∷ ks) ≡ false → (is_among ks k ≡ false) × (has_double ks ≡ false)
apart_first k ks h = parts_false (is_among ks k) (has_double ks) h

double_end : (xs ss : List TrackKey) → has_double (xs ++ ss) ≡ false → has_double ss ≡ false
double_end [] ss h = h
double_end (x ∷ xs) ss h = double_end xs ss (apart_first x (xs ++ ss) h).1

double_cut : (ps xs ss : List TrackKey) → has_double (ps ++ (xs ++ ss)) ≡ false → has_double (ps ++ ss) ≡ false
double_cut [] xs ss h = double_end xs ss h
double_cut (p ∷ ps) xs ss h =
    let d = apart_first p (ps ++ (xs ++ ss)) h in
    none_true (is_among (ps ++ ss) p) (has_double (ps ++ ss)) (any_cut (same_key p) ps xs ss d.0) (double_cut ps xs ss d.1)

itself : (k : TrackKey) → same_key k k ≡ true
itself k = (same_key-Decides k k).1 refl

-- ---- where entries come from

abbrev seek : ℕ → List TrackKey → TrackKey → Option ℕ
seek i old n = position_from (same_key n) i old

absent : (n : TrackKey) (i : ℕ) (ks : List TrackKey) → is_among ks n ≡ false → seek i ks n ≡ None
absent n i [] none = refl
absent n i (k ∷ ks) none =
    let d = parts_false (same_key n k) (is_among ks n) none in
    ap (λ (b : Bool). cond b (Some i) (seek (i + 1) ks n)) d.0 ∙ absent n (i + 1) ks d.1

seek_past : (k : TrackKey) (i : ℕ) (ks ns : List TrackKey) → is_among ns k ≡ false → map (seek i (k ∷ ks)) ns ≡ map (seek (i + 1) ks) ns
seek_past k i ks [] none = refl
seek_past k i ks (n ∷ ns) none =
    let d = parts_false (same_key k n) (is_among ns k) none in
    let other : same_key n k ≡ false = same_key_equiv.symm n k ∙ d.0 in
    ap (λ (b : Bool). cond b (Some i) (seek (i + 1) ks n) ∷ map (seek i (k ∷ ks)) ns) other
    ∙ ap (λ (os : List (Option ℕ)). seek (i + 1) ks n ∷ os) (seek_past k i ks ns d.1)

-- the first key is found first, and the others behind it
seek_first : (k : TrackKey) (i : ℕ) (ks ns : List TrackKey) (os : List (Option ℕ)) → is_among ns k ≡ false → map (seek (i + 1) ks) ns ≡ os → map (seek i (k ∷ ks)) (k ∷ ns) ≡ Some i ∷ os
seek_first k i ks ns os none more =
    ap (λ (b : Bool). cond b (Some i) (seek (i + 1) ks k) ∷ map (seek i (k ∷ ks)) ns) (itself k)
    ∙ ap (λ (os : List (Option ℕ)). Some i ∷ os) (seek_past k i ks ns none ∙ more)

seek_own : (ks : List TrackKey) (i : ℕ) → has_double ks ≡ false → map (seek i ks) ks ≡ sources_on i (length ks)
seek_own [] i h = refl
seek_own (k ∷ ks) i h =
    let d = apart_first k ks h in
    seek_first k i ks ks (sources_on (i + 1) (length ks)) d.0 (seek_own ks (i + 1) d.1)

seek_none : (ss : List TrackKey) (i : ℕ) (bs : List TrackKey) → has_double (bs ++ ss) ≡ false → map (seek i ss) bs ≡ no_sources (length bs)
seek_none ss i [] h = refl
seek_none ss i (b ∷ bs) h =
    let d = apart_first b (bs ++ ss) h in
    ap (λ (o : Option ℕ). o ∷ map (seek i ss) bs) (absent b i ss (any_parts (same_key b) bs ss d.0).1)
    ∙ ap (λ (os : List (Option ℕ)). None ∷ os) (seek_none ss i bs d.1)

seek_later : (xs ss : List TrackKey) (i n : ℕ) → n ≡ i + length xs → has_double (xs ++ ss) ≡ false → map (seek i (xs ++ ss)) ss ≡ sources_on n (length ss)
seek_later [] ss i n at h =
    let here : i ≡ n = omega (arith, at) in
    seek_own ss i h ∙ ap (λ (j : ℕ). sources_on j (length ss)) here
seek_later (x ∷ xs) ss i n at h =
    let d = apart_first x (xs ++ ss) h in
    let next : n ≡ i + 1 + length xs = omega (arith, at) in
    seek_past x i (xs ++ ss) ss (any_parts (same_key x) xs ss d.0).1 ∙ seek_later xs ss (i + 1) n next d.1

sources_came : (ps bs ss : List TrackKey) (i n : ℕ) → n ≡ i + length ps → has_double (ps ++ (bs ++ ss)) ≡ false
    → map (seek i (ps ++ ss)) (ps ++ (bs ++ ss)) ≡ sources_on i (length ps) ++ (no_sources (length bs) ++ sources_on n (length ss))
sources_came [] bs ss i n at h =
    let here : i ≡ n = omega (arith, at) in
    map-append (seek i ss) bs ss
    ∙ (ap (λ (os : List (Option ℕ)). os ++ map (seek i ss) ss) (seek_none ss i bs h)
    ∙ ap (λ (os : List (Option ℕ)). no_sources (length bs) ++ os) (seek_own ss i (double_end bs ss h) ∙ ap (λ (j : ℕ). sources_on j (length ss)) here))
sources_came (p ∷ ps) bs ss i n at h =
    let d = apart_first p (ps ++ (bs ++ ss)) h in
    let next : n ≡ i + 1 + length ps = omega (arith, at) in
    seek_first p i (ps ++ ss) (ps ++ (bs ++ ss)) (sources_on (i + 1) (length ps) ++ (no_sources (length bs) ++ sources_on n (length ss))) d.0 (sources_came ps bs ss (i + 1) n next d.1)

sources_went : (ps xs ss : List TrackKey) (i n : ℕ) → n ≡ i + length ps + length xs → has_double (ps ++ (xs ++ ss)) ≡ false
    → map (seek i (ps ++ (xs ++ ss))) (ps ++ ss) ≡ sources_on i (length ps) ++ sources_on n (length ss)
sources_went [] xs ss i n at h =
    let here : n ≡ i + length xs = omega (arith, at) in
    seek_later xs ss i n here h
sources_went (p ∷ ps) xs ss i n at h =
    let d = apart_first p (ps ++ (xs ++ ss)) h in
    let next : n ≡ i + 1 + length ps + length xs = omega (arith, at) in
    seek_first p i (ps ++ (xs ++ ss)) (ps ++ ss) (sources_on (i + 1) (length ps) ++ sources_on n (length ss)) (any_cut (same_key p) ps xs ss d.0) (sources_went ps xs ss (i + 1) n next d.1)

-- ---- which rows go

abbrev missing : List TrackKey → TrackKey → Bool
missing ns k = not (is_among ns k)

abbrev Within : List TrackKey → List TrackKey → Type 0
Within xs ns = (k : TrackKey) → is_among xs k ≡ true → is_among ns k ≡ true

abbrev Without : List TrackKey → List TrackKey → Type 0
Without xs ns = (k : TrackKey) → is_among xs k ≡ true → is_among ns k ≡ false

first_there : (x : TrackKey) (xs : List TrackKey) → is_among (x ∷ xs) x ≡ true
first_there x xs = first_true (same_key x x) (is_among xs x) (itself x)

rest_there : (x : TrackKey) (xs : List TrackKey) (k : TrackKey) → is_among xs k ≡ true → is_among (x ∷ xs) k ≡ true
rest_there x xs k a = second_true (same_key k x) (is_among xs k) a

skip_in : (ns xs ys : List TrackKey) (i n : ℕ) → n ≡ i + length xs → Within xs ns → places_from (missing ns) i (xs ++ ys) ≡ places_from (missing ns) n ys
skip_in ns [] ys i n at h =
    let here : i ≡ n = omega (arith, at) in
    ap (λ (j : ℕ). places_from (missing ns) j ys) here
skip_in ns (x ∷ xs) ys i n at h =
    let next : n ≡ i + 1 + length xs = omega (arith, at) in
    let more = places_from (missing ns) (i + 1) (xs ++ ys) in
    ap (λ (b : Bool). cond (not b) (i ∷ more) more) (h x (first_there x xs)) ∙ skip_in ns xs ys (i + 1) n next (λ k a. h k (rest_there x xs k a))

all_out : (ns xs ys : List TrackKey) (i n : ℕ) → n ≡ i + length xs → Without xs ns
    → places_from (missing ns) i (xs ++ ys) ≡ places_on i (length xs) ++ places_from (missing ns) n ys
all_out ns [] ys i n at h =
    let here : i ≡ n = omega (arith, at) in
    ap (λ (j : ℕ). places_from (missing ns) j ys) here
all_out ns (x ∷ xs) ys i n at h =
    let next : n ≡ i + 1 + length xs = omega (arith, at) in
    let more = places_from (missing ns) (i + 1) (xs ++ ys) in
    ap (λ (b : Bool). cond (not b) (i ∷ more) more) (h x (first_there x xs))
    ∙ ap (λ (is : List ℕ). i ∷ is) (all_out ns xs ys (i + 1) n next (λ k a. h k (rest_there x xs k a)))

all_in : (ns xs : List TrackKey) (i : ℕ) → Within xs ns → places_from (missing ns) i xs ≡ []
all_in ns xs i h = ap (places_from (missing ns) i) (sym (append-nil xs)) ∙ skip_in ns xs [] i (i + length xs) refl h

apart_end : (xs ss : List TrackKey) → has_double (xs ++ ss) ≡ false → Without xs ss
apart_end [] ss h k a = absurd (true≢false (sym a))
apart_end (x ∷ xs) ss h k a = by (same_key k x) refl (apart_end xs ss d.1 k)
  where
    d : (is_among (xs ++ ss) x ≡ false) × (has_double (xs ++ ss) ≡ false)
    d = apart_first x (xs ++ ss) h

    by : (b : Bool) → same_key k x ≡ b → (is_among xs k ≡ true → is_among ss k ≡ false) → is_among ss k ≡ false
    by true e more = ap (is_among ss) ((same_key-Decides k x).0 e) ∙ (any_parts (same_key x) xs ss d.0).1
    by false e more = more (ap (λ (b : Bool). b || is_among xs k) (sym e) ∙ a)

apart : (ps xs ss : List TrackKey) → has_double (ps ++ (xs ++ ss)) ≡ false → Without xs (ps ++ ss)
apart [] xs ss h k a = apart_end xs ss h k a
apart (p ∷ ps) xs ss h k a = none_true (same_key k p) (is_among (ps ++ ss) k) (by (same_key k p) refl) (apart ps xs ss d.1 k a)
  where
    d : (is_among (ps ++ (xs ++ ss)) p ≡ false) × (has_double (ps ++ (xs ++ ss)) ≡ false)
    d = apart_first p (ps ++ (xs ++ ss)) h

    by : (b : Bool) → same_key k p ≡ b → same_key k p ≡ false
    by false e = e
    by true e =
        let found : is_among xs p ≡ true = ap (is_among xs) (sym ((same_key-Decides k p).0 e)) ∙ a in
        let none = (any_parts (same_key p) xs ss (any_parts (same_key p) ps (xs ++ ss) d.0).1).0 in
        absurd (true≢false (sym found ∙ none))

wider : (ps bs ss : List TrackKey) → Within (ps ++ ss) (ps ++ (bs ++ ss))
wider ps bs ss k a = by (is_among (ps ++ (bs ++ ss)) k) refl
  where
    by : (b : Bool) → is_among (ps ++ (bs ++ ss)) k ≡ b → is_among (ps ++ (bs ++ ss)) k ≡ true
    by true e = e
    by false e = absurd (true≢false (sym a ∙ any_cut (same_key k) ps bs ss e))

left : (ps ss : List TrackKey) → Within ps (ps ++ ss)
left ps ss k a = list_any-append (same_key k) ps ss ∙ first_true (is_among ps k) (is_among ss k) a

right : (ps ss : List TrackKey) → Within ss (ps ++ ss)
right ps ss k a = list_any-append (same_key k) ps ss ∙ second_true (is_among ps k) (is_among ss k) a

gone_came : (ps bs ss : List TrackKey) → gone_places (ps ++ ss) (ps ++ (bs ++ ss)) ≡ []
gone_came ps bs ss = all_in (ps ++ (bs ++ ss)) (ps ++ ss) 0 (wider ps bs ss)

gone_went : (ps xs ss : List TrackKey) → has_double (ps ++ (xs ++ ss)) ≡ false → gone_places (ps ++ (xs ++ ss)) (ps ++ ss) ≡ places_on (length ps) (length xs)
gone_went ps xs ss h =
    let ns = ps ++ ss in
    let n = length ps in
    let start : n ≡ 0 + n = omega arith in
    skip_in ns ps (xs ++ ss) 0 n start (left ps ss)
    ∙ (all_out ns xs ss n (n + length xs) refl (apart ps xs ss h)
    ∙ (ap (λ (is : List ℕ). places_on n (length xs) ++ is) (all_in ns ss (n + length xs) (right ps ss)) ∙ append-nil (places_on n (length xs))))

-- ---- plans

abbrev plan_as : List ℕ → List (Option ℕ) → Result Plan PlanFault
plan_as is os = let p : Plan = record { gone = is; from = os } in Ok p

rows_by : (old new : List TrackKey) → map (row_of old) new ≡ map (seek 0 old) new
rows_by old new = ap (λ (f : TrackKey → Option ℕ). map f new) (fun_ext (λ n. position_from-zero (same_key n) old))

plan_is : (old new : List TrackKey) (is : List ℕ) (os : List (Option ℕ)) → has_double new ≡ false → gone_places old new ≡ is → map (seek 0 old) new ≡ os → planned old new ≡ plan_as is os
plan_is old new is os differ gone from =
    ap (λ (b : Bool). cond {A = Result Plan PlanFault} b (Err Dupes) (plan_as (gone_places old new) (map (row_of old) new))) differ
    ∙ (ap (λ (js : List ℕ). plan_as js (map (row_of old) new)) gone ∙ ap (plan_as is) (rows_by old new ∙ from))

plan_of : (p : Plan) (is : List ℕ) (os : List (Option ℕ)) → p.gone ≡ is → p.from ≡ os → plan_as is os ≡ Ok p
plan_of p is os gone from = ap (λ (js : List ℕ). plan_as js os) (sym gone) ∙ ap (plan_as p.gone) (sym from)

-- some keys, by those that are the same in front and at the end of others
module _ (long short : List TrackKey) (n : ℕ) (few : n ≤ length short) (fits : length short ≤ length long) (front : take n long ≡ take n short) (end : drop (n + (length long - length short)) long ≡ drop n short) where
  abbrev more : ℕ
  more = length long - length short

  abbrev ps : List TrackKey
  ps = take n short

  abbrev xs : List TrackKey
  xs = take more (drop n long)

  abbrev ss : List TrackKey
  ss = drop n short

  short_is : ps ++ ss ≡ short
  short_is = take-append-drop n short

  long_is : ps ++ (xs ++ ss) ≡ long
  long_is =
      let behind : xs ++ drop more (drop n long) ≡ drop n long = take-append-drop more (drop n long) in
      let last : drop more (drop n long) ≡ ss = drop-drop more n long ∙ end in
      ap (λ (ks : List TrackKey). ps ++ (xs ++ ks)) (sym last)
      ∙ (ap (λ (ks : List TrackKey). ps ++ ks) behind ∙ (ap (λ (ks : List TrackKey). ks ++ drop n long) (sym front) ∙ take-append-drop n long))

  front_count : length ps ≡ n
  front_count = length-take-le n short few

  more_count : length xs ≡ more
  more_count =
      let rest = length-drop n long in
      length-take-le more (drop n long) (omega (arith, rest, few, fits))

  end_count : length ss ≡ length short - n
  end_count = length-drop n short

  differ_short : has_double long ≡ false → has_double short ≡ false
  differ_short h = ap has_double (sym short_is) ∙ double_cut ps xs ss (ap has_double long_is ∙ h)

  -- entries came
  pub came : (p : Plan) → has_double long ≡ false → p.gone ≡ [] → p.from ≡ sources_on 0 n ++ (no_sources more ++ sources_on n (length short - n)) → IsPlan short long p
  came p h gone from =
      let differ : has_double (ps ++ (xs ++ ss)) ≡ false = ap has_double long_is ∙ h in
      let start : length ps ≡ 0 + length ps = omega arith in
      let os = sources_on 0 (length ps) ++ (no_sources (length xs) ++ sources_on (length ps) (length ss)) in
      let is = plan_is (ps ++ ss) (ps ++ (xs ++ ss)) [] os differ (gone_came ps xs ss) (sources_came ps xs ss 0 (length ps) start differ) in
      let counts : os ≡ sources_on 0 n ++ (no_sources more ++ sources_on n (length short - n)) =
      ap (λ (j : ℕ). sources_on 0 j ++ (no_sources (length xs) ++ sources_on j (length ss))) front_count
      ∙ (ap (λ (j : ℕ). sources_on 0 n ++ (no_sources j ++ sources_on n (length ss))) more_count
      ∙ ap (λ (j : ℕ). sources_on 0 n ++ (no_sources more ++ sources_on n j)) end_count) in (
        differ_short h,
        ap (λ (ks : List TrackKey). planned ks long) (sym short_is) ∙ (ap (planned (ps ++ ss)) (sym long_is)
            ∙ (is ∙ plan_of p [] os gone (from ∙ sym counts))),
      )

  -- rows went
  pub went : (p : Plan) → has_double long ≡ false → p.gone ≡ places_on n more → p.from ≡ sources_on 0 n ++ sources_on (n + more) (length short - n) → IsPlan long short p
  went p h gone from =
      let differ : has_double (ps ++ (xs ++ ss)) ≡ false = ap has_double long_is ∙ h in
      let start : length ps + length xs ≡ 0 + length ps + length xs = omega arith in
      let gs = places_on (length ps) (length xs) in
      let os = sources_on 0 (length ps) ++ sources_on (length ps + length xs) (length ss) in
      let is = plan_is (ps ++ (xs ++ ss)) (ps ++ ss) gs os (double_cut ps xs ss differ) (gone_went ps xs ss differ) (sources_went ps xs ss 0 (length ps + length xs) start differ) in
      let numbers : gs ≡ places_on n more = ap (λ (j : ℕ). places_on j (length xs)) front_count ∙ ap (places_on n) more_count in
      let counts : os ≡ sources_on 0 n ++ sources_on (n + more) (length short - n) =
      ap (λ (j : ℕ). sources_on 0 j ++ sources_on (j + length xs) (length ss)) front_count
      ∙ (ap (λ (j : ℕ). sources_on 0 n ++ sources_on (n + j) (length ss)) more_count
      ∙ ap (λ (j : ℕ). sources_on 0 n ++ sources_on (n + more) j) end_count) in (
        h,
        ap (λ (ks : List TrackKey). planned ks short) (sym long_is) ∙ (ap (planned (ps ++ (xs ++ ss))) (sym short_is)
            ∙ (is ∙ plan_of p gs os (gone ∙ sym numbers) (from ∙ sym counts))),
      )

-- ---- as keys are compared, one after another

pub front_more : (a b : List TrackKey) (i : ℕ) (x y : TrackKey) → i < length a → i < length b → x ≡ get_or a i x → y ≡ get_or b i y → x ≡ y → take i a ≡ take i b → take (i + 1) a ≡ take (i + 1) b
front_more a b i x y in_a in_b x_is y_is same before =
    take_more a i x in_a
    ∙ (ap (λ (ks : List TrackKey). ks ++ get_or a i x ∷ []) before
    ∙ (ap (λ (k : TrackKey). take i b ++ k ∷ []) (sym x_is ∙ (same ∙ y_is)) ∙ sym (take_more b i y in_b)))

pub end_more : (a b : List TrackKey) (i j : ℕ) (x y : TrackKey) → i < length a → j < length b → x ≡ get_or a i x → y ≡ get_or b j y → x ≡ y → drop (i + 1) a ≡ drop (j + 1) b → drop i a ≡ drop j b
end_more a b i j x y in_a in_b x_is y_is same behind =
    drop_more a i x in_a
    ∙ (ap (λ (ks : List TrackKey). get_or a i x ∷ ks) behind
    ∙ (ap (λ (k : TrackKey). k ∷ drop (j + 1) b) (sym x_is ∙ (same ∙ y_is)) ∙ sym (drop_more b j y in_b)))

pub no_end : (a b : List TrackKey) → drop (length a) a ≡ drop (length b) b
no_end a b = drop_all (length a) a (omega arith) ∙ sym (drop_all (length b) b (omega arith))

-- ---- as places are added, one after another

sources_more : (i e : ℕ) → i < e → sources_on i (e - i) ≡ Some i ∷ sources_on (i + 1) (e - (i + 1))
sources_more i e lt =
    let some : e - i ≡ suc (e - (i + 1)) = omega (arith, lt) in
    ap (sources_on i) some

places_more : (i e : ℕ) → i < e → places_on i (e - i) ≡ i ∷ places_on (i + 1) (e - (i + 1))
places_more i e lt =
    let some : e - i ≡ suc (e - (i + 1)) = omega (arith, lt) in
    ap (places_on i) some

pub source_added : (os now : List (Option ℕ)) (i e : ℕ) → i < e → now ≡ os ++ Some i ∷ [] → now ++ sources_on (i + 1) (e - (i + 1)) ≡ os ++ sources_on i (e - i)
source_added os now i e lt is =
    ap (λ (l : List (Option ℕ)). l ++ sources_on (i + 1) (e - (i + 1))) is
    ∙ (append_assoc os (Some i ∷ []) (sources_on (i + 1) (e - (i + 1))) ∙ ap (λ (l : List (Option ℕ)). os ++ l) (sym (sources_more i e lt)))

pub sources_done : (os : List (Option ℕ)) (i e : ℕ) → e ≤ i → os ++ sources_on i (e - i) ≡ os
sources_done os i e le =
    let none : e - i ≡ 0 = omega (arith, le) in
    ap (λ (n : ℕ). os ++ sources_on i n) none ∙ append-nil os

pub place_added : (is now : List ℕ) (i e : ℕ) → i < e → now ≡ is ++ i ∷ [] → now ++ places_on (i + 1) (e - (i + 1)) ≡ is ++ places_on i (e - i)
place_added is now i e lt at =
    ap (λ (l : List ℕ). l ++ places_on (i + 1) (e - (i + 1))) at
    ∙ (append_assoc is (i ∷ []) (places_on (i + 1) (e - (i + 1))) ∙ ap (λ (l : List ℕ). is ++ l) (sym (places_more i e lt)))

pub places_done : (is : List ℕ) (i e : ℕ) → e ≤ i → is ++ places_on i (e - i) ≡ is
places_done is i e le =
    let none : e - i ≡ 0 = omega (arith, le) in
    ap (λ (n : ℕ). is ++ places_on i n) none ∙ append-nil is

pub nothing_added : (os now : List (Option ℕ)) (n left : ℕ) → suc n ≡ left → now ≡ os ++ None ∷ [] → now ++ no_sources n ≡ os ++ no_sources left
nothing_added os now n left less is =
    ap (λ (l : List (Option ℕ)). l ++ no_sources n) is
    ∙ (append_assoc os (None ∷ []) (no_sources n) ∙ ap (λ (m : ℕ). os ++ no_sources m) less)

pub nothing_done : (os : List (Option ℕ)) (left : ℕ) → left ≡ 0 → os ++ no_sources left ≡ os
nothing_done os left none = ap (λ (n : ℕ). os ++ no_sources n) none ∙ append-nil os
