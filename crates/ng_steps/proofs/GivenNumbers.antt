-- What steps give: numbers of registration, one after another, what is noted of those of bindings, and what they have kept.
use Rattle.std.proofs.Common.{◌≡◌, ◌≤◌, ◌<◌, ◌+◌, ◌-◌, ◌∙◌, ℕ, zero, suc, Bool, true, false, cond, List, [], ◌∷◌, ◌++◌, Option, Some, None, refl, ap, sym, subst, drop, take, length, map, length-append, append_assoc, append-nil, arith}
use Rattle.std.specs.BTreeMap.{insert_entry, is_at}
use Rattle.std.specs.List.{AllByRecursion, flat_map}
use Rattle.std.specs.Ordering.{is_eq, nat_cmp, match_ordering}
use Rattle.std.specs.Prelude.{nat_lt, slice_get, slice_index_or}
use Rattle.std.specs.declared.cmp.Ordering.{Ordering}
use Rattle.std.specs.declared.cmp.Ordering.TheVariants.{Less, Equal, Greater}
use Rattle.std.proofs.lemmas.Bool.Decides.{nat_tests}
use Rattle.ng_base.specs.Views.{ViewTree}
use Rattle.ng_drawing.specs.Template.{Piece, word, hole, Source, of_text, of_nothing, one_way, two_way, of_call}
use Rattle.ng_steps.specs.Links.{Linking, bounds_noted, keep_last}
use Rattle.ng_instances.specs.Bindings.{Bound, Bounds, bound_in_table}
use Rattle.ng_build.specs.Linking.{LinkStep, makes, stops, opens, binds, installs, starts, starts_at, registers, leaves, piece_steps, bound_flags, is_bound_site, site_count, source_count, step_count}
use Rattle.ng_instances.specs.Registering.{kept_of}
use Rattle.ng_drawing.specs.Numbering.{hole_numbers, source_numbers}

-- ---- lists

get_left : {A : Type 0} (xs ys : List A) (i : ℕ) → i < length xs → slice_get (xs ++ ys) i ≡ slice_get xs i
get_left [] ys i lt = absurd (omega (arith, lt))
get_left (x ∷ xs) ys zero lt = refl
get_left (x ∷ xs) ys (suc i) lt = get_left xs ys i (omega (arith, lt))

get_right : {A : Type 0} (xs ys : List A) (i : ℕ) → length xs ≤ i → slice_get (xs ++ ys) i ≡ slice_get ys (i - length xs)
get_right [] ys i le = ap (slice_get ys) (let same : i ≡ i - 0 = omega arith in same)
get_right (x ∷ xs) ys zero le = absurd (omega (arith, le))
get_right (x ∷ xs) ys (suc i) le = get_right xs ys i (omega (arith, le)) ∙ ap (slice_get ys) (let same : i - length xs ≡ suc i - suc (length xs) = omega arith in same)

pub get_within : {A : Type 0} (xs : List A) (i : ℕ) (x : A) → slice_get xs i ≡ Some x → i < length xs
get_within [] i x e = absurd (cc)
get_within (y ∷ xs) zero x e = omega arith
get_within (y ∷ xs) (suc i) x e = let more = get_within xs i x e in omega (arith, more)

near : (i n : ℕ) → (nat_lt i n ≡ true) → i < n
near i n e = grind (arith, nat_tests)

far : (i n : ℕ) → (nat_lt i n ≡ false) → n ≤ i
far i n e = grind (arith, nat_tests)

all_get : (P : ℕ → Type 0) (ns : List ℕ) (i n : ℕ) → AllByRecursion P ns → slice_get ns i ≡ Some n → P n
all_get P [] i n h e = absurd (cc)
all_get P (k ∷ ns) zero n h e = let same : k ≡ n = cc in subst P same h.0
all_get P (k ∷ ns) (suc i) n h e = all_get P ns i n h.1 e

take_past : {A : Type 0} (ks xs : List A) (m n : ℕ) → n ≡ length ks + m → take n (ks ++ xs) ≡ ks ++ take m xs
take_past [] xs m n e = ap (λ (k : ℕ). take k xs) (let same : n ≡ m = omega (arith, e) in same)
take_past {A} (k ∷ ks) xs m zero e = absurd (omega (arith, e))
take_past {A} (k ∷ ks) xs m (suc n) e = ap (λ (ys : List A). k ∷ ys) (take_past ks xs m n (omega (arith, e)))

pub drop_past : {A : Type 0} (ks xs : List A) → drop (length ks) (ks ++ xs) ≡ xs
drop_past [] xs = refl
drop_past (k ∷ ks) xs = drop_past ks xs

take_length : {A : Type 0} (m : ℕ) (xs : List A) → m ≤ length xs → length (take m xs) ≡ m
take_length zero [] le = refl
take_length zero (x ∷ xs) le = refl
take_length (suc m) [] le = absurd (omega (arith, le))
take_length (suc m) (x ∷ xs) le = ap suc (take_length m xs (omega (arith, le)))

-- the last ones keep others
pub last_kept : (ks xs news : List (Option ViewTree)) → length news ≤ length xs → keep_last (ks ++ xs) news ≡ ks ++ (take (length xs - length news) xs ++ news)
last_kept ks xs news le =
    let count = length-append ks xs in
    let many : length (ks ++ xs) - length news ≡ length ks + (length xs - length news) = omega (arith, count, le) in
    ap (λ (ys : List (Option ViewTree)). ys ++ news) (take_past ks xs (length xs - length news) (length (ks ++ xs) - length news) many)
    ∙ append_assoc ks (take (length xs - length news) xs) news

pub last_length : (xs news : List (Option ViewTree)) → length news ≤ length xs → length (take (length xs - length news) xs ++ news) ≡ length xs
last_length xs news le =
    let a = length-append (take (length xs - length news) xs) news in
    let b = take_length (length xs - length news) xs (omega arith) in
    omega (arith, a, b, le)

-- ---- what is noted of a number

equal_is : (n k : ℕ) → is_at (nat_cmp n) k ≡ true → n ≡ k
equal_is n k e = grind (arith, nat_tests, e)

apart_is : (n k : ℕ) → (n ≡ k → ⊥) → is_at (nat_cmp n) k ≡ false
apart_is n k never = by (is_at (nat_cmp n) k) refl
  where
    by : (b : Bool) → is_at (nat_cmp n) k ≡ b → b ≡ false
    by true e = absurd (never (equal_is n k e))
    by false e = refl

inserted_apart : (t : Bounds) (k : ℕ) (b : Bound) (n : ℕ) → (n ≡ k → ⊥) → bound_in_table n (insert_entry nat_cmp t k b) ≡ bound_in_table n t
inserted_apart [] k b n never = ap (λ (x : Bool). cond x (Some b) None) (apart_is n k never)
inserted_apart (e ∷ t) k b n never = by (nat_cmp k e.0) refl (inserted_apart t k b n never)
  where
    by : (o : Ordering) → nat_cmp k e.0 ≡ o → bound_in_table n (insert_entry nat_cmp t k b) ≡ bound_in_table n t → bound_in_table n (match_ordering o ((k, b) ∷ e ∷ t) ((e.0, b) ∷ t) (e ∷ insert_entry nat_cmp t k b)) ≡ bound_in_table n (e ∷ t)
    by Less is more = ap (λ (x : Bool). cond x (Some b) (bound_in_table n (e ∷ t))) (apart_is n k never)
    by Equal is more =
        let same : k ≡ e.0 = equal_is k e.0 (ap is_eq is) in
        let off : is_at (nat_cmp n) e.0 ≡ false = apart_is n e.0 (λ (q : n ≡ e.0). never (q ∙ sym same)) in
        ap (λ (x : Bool). cond x (Some b) (bound_in_table n t)) off ∙ sym (ap (λ (x : Bool). cond x (Some e.1) (bound_in_table n t)) off)
    by Greater is more = ap (λ (o : Option Bound). cond (is_at (nat_cmp n) e.0) (Some e.1) o) more

pub noted_apart : (ns : List ℕ) (b : Bound) (t : Bounds) (n : ℕ) → AllByRecursion (λ k. n ≡ k → ⊥) ns → bound_in_table n (bounds_noted ns b t) ≡ bound_in_table n t
noted_apart [] b t n never = refl
noted_apart (k ∷ ns) b t n never = noted_apart ns b (insert_entry nat_cmp t k b) n never.1 ∙ inserted_apart t k b n never.0

pub all_above : (ns : List ℕ) (low n : ℕ) → n < low → AllByRecursion (λ k. low ≤ k) ns → AllByRecursion (λ k. n ≡ k → ⊥) ns
all_above [] low n lt h = tt
all_above (k ∷ ns) low n lt h = (λ (e : n ≡ k). omega (arith, lt, h.0, e), all_above ns low n lt h.1)

pub all_under : (ns : List ℕ) (high n : ℕ) → high ≤ n → AllByRecursion (λ k. k < high) ns → AllByRecursion (λ k. n ≡ k → ⊥) ns
all_under [] high n le h = tt
all_under (k ∷ ns) high n le h = (λ (e : n ≡ k). omega (arith, le, h.0, e), all_under ns high n le h.1)

-- ---- what steps give

abbrev pub IsFresh : Linking → Type 0
IsFresh g = (n : ℕ) → g.state.core.serial ≤ n → bound_in_table n g.made.bounds ≡ None

pub record Gives (xs : List LinkStep) (g h : Linking) : Type 0 where
  pub numbers : List ℕ
  pub values : List (Option ViewTree)
  pub serials : h.made.serials ≡ g.made.serials ++ numbers
  pub kept : h.made.kept ≡ g.made.kept ++ values
  pub count : length numbers ≡ site_count xs
  pub as_many : length values ≡ site_count xs
  pub later : g.state.core.serial ≤ h.state.core.serial
  pub under : AllByRecursion (λ n. n < h.state.core.serial) numbers
  pub older : (n : ℕ) → n < g.state.core.serial → bound_in_table n h.made.bounds ≡ bound_in_table n g.made.bounds
  pub fresh : IsFresh h
  pub drawn : (i n : ℕ) → slice_get numbers i ≡ Some n → is_bound_site xs i ≡ false → (bound_in_table n h.made.bounds ≡ None) × (kept_of (slice_get values i) ≡ None)

-- as many flags as sites
holes_count : (ps : List Piece) → length (map (λ (n : ℕ). true) (hole_numbers ps)) ≡ length (piece_steps ps)
holes_count [] = refl
holes_count (word w ∷ ps) = holes_count ps
holes_count (hole n ∷ ps) = ap suc (holes_count ps)

pub source_flags : (x : Source) → length (map (λ (n : ℕ). true) (source_numbers x)) ≡ source_count x
source_flags (of_text ps) = holes_count ps
source_flags of_nothing = refl
source_flags (one_way n) = refl
source_flags (two_way n w) = refl
source_flags (of_call p) = refl

flag_count : (x : LinkStep) → length (bound_flags x) ≡ step_count x
flag_count makes = refl
flag_count stops = refl
flag_count (opens o) = refl
flag_count (binds b s o) = source_flags b.source
flag_count (installs d s) = refl
flag_count (starts s p) = refl
flag_count (starts_at o p) = refl
flag_count registers = refl
flag_count (leaves d s) = refl

pub flag_left : (xs ys : List Bool) (i : ℕ) → i < length xs → slice_index_or (xs ++ ys) i false ≡ slice_index_or xs i false
flag_left [] ys i lt = absurd (omega (arith, lt))
flag_left (x ∷ xs) ys zero lt = refl
flag_left (x ∷ xs) ys (suc i) lt = flag_left xs ys i (omega (arith, lt))

flag_right : (xs ys : List Bool) (i : ℕ) → length xs ≤ i → slice_index_or (xs ++ ys) i false ≡ slice_index_or ys (i - length xs) false
flag_right [] ys i le = ap (λ (n : ℕ). slice_index_or ys n false) (let same : i ≡ i - 0 = omega arith in same)
flag_right (x ∷ xs) ys zero le = absurd (omega (arith, le))
flag_right (x ∷ xs) ys (suc i) le = flag_right xs ys i (omega (arith, le)) ∙ ap (λ (n : ℕ). slice_index_or ys n false) (let same : i - length xs ≡ suc i - suc (length xs) = omega arith in same)

pub all_flags : (ns : List ℕ) (i : ℕ) → i < length (map (λ (n : ℕ). true) ns) → slice_index_or (map (λ (n : ℕ). true) ns) i false ≡ true
all_flags [] i lt = absurd (omega (arith, lt))
all_flags (n ∷ ns) zero lt = refl
all_flags (n ∷ ns) (suc i) lt = all_flags ns i (omega (arith, lt))

first_site : (x : LinkStep) (xs : List LinkStep) (i : ℕ) → i < step_count x → is_bound_site (x ∷ xs) i ≡ is_bound_site (x ∷ []) i
first_site x xs i lt =
    let count = flag_count x in
    let few : i < length (bound_flags x) = omega (arith, lt, count) in
    flag_left (bound_flags x) (flat_map bound_flags xs) i few ∙ sym (flag_left (bound_flags x) [] i few)

later_site : (x : LinkStep) (xs : List LinkStep) (i : ℕ) → step_count x ≤ i → is_bound_site (x ∷ xs) i ≡ is_bound_site xs (i - step_count x)
later_site x xs i le =
    let count = flag_count x in
    flag_right (bound_flags x) (flat_map bound_flags xs) i (omega (arith, le, count)) ∙ ap (λ (n : ℕ). is_bound_site xs (i - n)) count

pub all_later : (m n : ℕ) (ns : List ℕ) → m ≤ n → AllByRecursion (λ k. k < m) ns → AllByRecursion (λ k. k < n) ns
all_later m n [] le h = tt
all_later m n (k ∷ ks) le h = (omega (arith, le, h.0), all_later m n ks le h.1)

all_both : (P : ℕ → Type 0) (ks ns : List ℕ) → AllByRecursion P ks → AllByRecursion P ns → AllByRecursion P (ks ++ ns)
all_both P [] ns h k = k
all_both P (x ∷ ks) ns h k = (h.0, all_both P ks ns h.1 k)

pub then_gives : (x : LinkStep) (xs : List LinkStep) (g m h : Linking) → Gives (x ∷ []) g m → Gives xs m h → Gives (x ∷ xs) g h
then_gives x xs g m h a b =
    let more = b.later in
    record {
      numbers = a.numbers ++ b.numbers;
      values = a.values ++ b.values;
      serials = b.serials ∙ (ap (λ (ns : List ℕ). ns ++ b.numbers) a.serials ∙ append_assoc g.made.serials a.numbers b.numbers);
      kept = b.kept ∙ (ap (λ (ks : List (Option ViewTree)). ks ++ b.values) a.kept ∙ append_assoc g.made.kept a.values b.values);
      count = (let c = length-append a.numbers b.numbers in let d = a.count in let e = b.count in omega (arith, c, d, e));
      as_many = (let c = length-append a.values b.values in let d = a.as_many in let e = b.as_many in omega (arith, c, d, e));
      later = (let c = a.later in omega (arith, c, more));
      under = all_both (λ n. n < h.state.core.serial) a.numbers b.numbers (all_later m.state.core.serial h.state.core.serial a.numbers more a.under) b.under;
      older = λ n lt. b.older n (let c = a.later in omega (arith, c, lt)) ∙ a.older n lt;
      fresh = b.fresh;
      drawn = λ i n at off. by i n at off (nat_lt i (step_count x)) refl;
    }
  where
    by : (i n : ℕ) → slice_get (a.numbers ++ b.numbers) i ≡ Some n → is_bound_site (x ∷ xs) i ≡ false → (t : Bool) → nat_lt i (step_count x) ≡ t → (bound_in_table n h.made.bounds ≡ None) × (kept_of (slice_get (a.values ++ b.values) i) ≡ None)
    by i n at off true e =
        let lt : i < step_count x = near i (step_count x) e in
        let few = a.count in
        let many = a.as_many in
        let here : slice_get a.numbers i ≡ Some n = sym (get_left a.numbers b.numbers i (omega (arith, lt, few))) ∙ at in
        let one = a.drawn i n here (sym (first_site x xs i lt) ∙ off) in (
          b.older n (all_get (λ k. k < m.state.core.serial) a.numbers i n a.under here) ∙ one.0,
          ap kept_of (get_left a.values b.values i (omega (arith, lt, many))) ∙ one.1,
        )
    by i n at off false e =
        let le : step_count x ≤ i = far i (step_count x) e in
        let few : length a.numbers ≡ step_count x = (let c = a.count in omega (arith, c)) in
        let many : length a.values ≡ step_count x = (let c = a.as_many in omega (arith, c)) in
        let here : slice_get b.numbers (i - step_count x) ≡ Some n = sym (get_right a.numbers b.numbers i (omega (arith, le, few)) ∙ ap (λ (k : ℕ). slice_get b.numbers (i - k)) few) ∙ at in
        let one = b.drawn (i - step_count x) n here (sym (later_site x xs i le) ∙ off) in (
          one.0,
          ap kept_of (get_right a.values b.values i (omega (arith, le, many)) ∙ ap (λ (k : ℕ). slice_get b.values (i - k)) many) ∙ one.1,
        )

-- a step that gives no number
pub quiet : (x : LinkStep) (g h : Linking) → step_count x ≡ 0 → h.made.serials ≡ g.made.serials → h.made.kept ≡ g.made.kept → h.made.bounds ≡ g.made.bounds → g.state.core.serial ≤ h.state.core.serial → IsFresh g → Gives (x ∷ []) g h
quiet x g h none serials kept bounds later fresh = record {
  numbers = [];
  values = [];
  serials = serials ∙ sym (append-nil g.made.serials);
  kept = kept ∙ sym (append-nil g.made.kept);
  count = omega (arith, none);
  as_many = omega (arith, none);
  later = later;
  under = tt;
  older = λ n lt. ap (bound_in_table n) bounds;
  fresh = λ n le. ap (bound_in_table n) bounds ∙ fresh n (omega (arith, later, le));
  drawn = λ i n at off. absurd (let lt = get_within [] i n at in omega (arith, lt));
}
