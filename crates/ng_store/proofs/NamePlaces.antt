-- Names, and a value for each: where a name stands, and what a property is that is written or comes behind the others.
use Rattle.std.proofs.Common.{◌≡◌, ◌∙◌, ◌<◌, ◌+◌, ◌||◌, ◌&&◌, ℕ, zero, suc, Bool, true, false, List, [], ◌∷◌, ◌++◌, Option, Some, None, refl, sym, ap, subst, bytes_eq, length, cond, not, if◌then◌else◌, nat_lt, arith, position, slice_get, is_some, true≢false, append-nil, take, drop, set, get_or, ◌≤◌, option_copied, Bor, MatchOption}
use Rattle.std.specs.Option.{IfSome}
use Rattle.std.proofs.lemmas.Bool.Decides.{nat_tests}
use Rattle.std.specs.List.{AllByRecursion, IsDistinct, list_any, list_all, position_or_len, prefix_len, zip}
use Rattle.std.specs.Map.{keys_of, lookup}
use Rattle.std.proofs.lemmas.Map.Made.{keys_of-zip}
use Rattle.indexmap.specs.IndexMap.{insert_entry, set_value_at}
use Rattle.indexmap.specs.IndexSet.{insert_key, insert_all}
use Rattle.ng_base.specs.Objects.{indices_from, with_index, other_names, index_of}
use Rattle.ng_base.specs.declared.value.Value.{Value}
use Rattle.ng_store.specs.NamesOf.{all_nameless}
use Rattle.ng_store.proofs.Places.{written_at, written_first, found_at}
use Rattle.ng_store.proofs.Turned.{turned}

abbrev Names : Type 0
Names = List (List ℕ)

both_true : (b c : Bool) → (b && c) ≡ true → (b ≡ true) × (c ≡ true)
both_true true c h = (refl, h)
both_true false c h = absurd (true≢false (sym h))

-- ---- names that are inserted one after another

apart_from : (k x : List ℕ) (ks xs : Names) → AllByRecursion (λ y. bytes_eq k y ≡ false) (ks ++ x ∷ xs) → bytes_eq k x ≡ false
apart_from k x [] xs a = a.0
apart_from k x (y ∷ ks) xs a = apart_from k x ks xs a.1

others_before : (done : Names) (x : List ℕ) (xs : Names) → IsDistinct bytes_eq (done ++ x ∷ xs) → list_any (bytes_eq x) done ≡ false
unfolding IsDistinct
others_before [] x xs d = refl
others_before (k ∷ ks) x xs d =
    let here : bytes_eq x k ≡ false = turned x k ∙ apart_from k x ks xs d.0 in
    ap (λ b. b || list_any (bytes_eq x) ks) here ∙ others_before ks x xs d.1

one_more : (done : Names) (x : List ℕ) (b : Bool) → b ≡ false → (if b then done else done ++ x ∷ []) ≡ done ++ x ∷ []
one_more done x true h = absurd (true≢false h)
one_more done x false h = refl

together : (done : Names) (x : List ℕ) (xs : Names) → (done ++ x ∷ []) ++ xs ≡ done ++ x ∷ xs
together [] x xs = refl
together (k ∷ ks) x xs = ap (λ l. k ∷ l) (together ks x xs)

-- distinct names are all new
pub inserted_all : (done xs : Names) → IsDistinct bytes_eq (done ++ xs) → insert_all bytes_eq done xs ≡ done ++ xs
inserted_all done [] d = sym (append-nil done)
inserted_all done (x ∷ xs) d =
    let new = one_more done x (list_any (bytes_eq x) done) (others_before done x xs d) in
    ap (λ ks. insert_all bytes_eq ks xs) new
    ∙ (inserted_all (done ++ x ∷ []) xs (subst (IsDistinct bytes_eq) (sym (together done x xs)) d)
    ∙ together done x xs)

-- a name that isn't there comes behind the others
pub inserted_new : (done : Names) (x : List ℕ) → list_any (bytes_eq x) done ≡ false → insert_key bytes_eq done x ≡ done ++ x ∷ []
inserted_new done x h = one_more done x (list_any (bytes_eq x) done) h

-- ---- names that are looked through

pub next_name : (ns : Names) (i : ℕ) (n : List ℕ) → i < length ns → n ≡ get_or ns i n → drop i ns ≡ n ∷ drop (i + 1) ns
next_name [] i n h e = absurd (omega (arith, h))
next_name (x ∷ xs) zero n h e = ap (λ k. k ∷ xs) (sym e)
next_name (x ∷ xs) (suc i) n h e =
    let one : suc (i + 1) ≡ suc i + 1 = omega arith in
    next_name xs i n (omega (arith, h)) e ∙ ap (λ j. n ∷ drop j (x ∷ xs)) one

pub none_left : (ns : Names) (i : ℕ) → length ns ≤ i → drop i ns ≡ []
none_left [] zero h = refl
none_left [] (suc i) h = refl
none_left (x ∷ xs) zero h = absurd (omega (arith, h))
none_left (x ∷ xs) (suc i) h = none_left xs i (omega (arith, h))

-- ---- the place of a name

first_at : (q : List ℕ → Bool) (ns : Names) (i : ℕ) → i < length ns → list_all q (take i ns) ≡ true → q (get_or ns i []) ≡ false → prefix_len q ns ≡ i
first_at q [] i h a f = absurd (omega (arith, h))
first_at q (n ∷ ns) zero h a f = ap (λ b. cond b (1 + prefix_len q ns) 0) f
first_at q (n ∷ ns) (suc i) h a f =
    let both = both_true (q n) (list_all q (take i ns)) a in
    let rest : prefix_len q ns ≡ i = first_at q ns i (omega (arith, h)) both.1 f in
    let one : 1 + i ≡ suc i = omega arith in
    ap (λ b. cond b (1 + prefix_len q ns) 0) both.0 ∙ (ap (λ k. 1 + k) rest ∙ one)

all_others : (q : List ℕ → Bool) (ns : Names) → list_all q ns ≡ true → prefix_len q ns ≡ length ns
all_others q [] a = refl
all_others q (n ∷ ns) a =
    let both = both_true (q n) (list_all q ns) a in
    let one : 1 + length ns ≡ suc (length ns) = omega arith in
    ap (λ b. cond b (1 + prefix_len q ns) 0) both.0 ∙ (ap (λ k. 1 + k) (all_others q ns both.1) ∙ one)

turned_false : (b : Bool) → b ≡ true → not b ≡ false
turned_false true h = refl
turned_false false h = absurd (true≢false (sym h))

some_if : (b : Bool) (n i : ℕ) → b ≡ true → n ≡ i → cond b (Some n) None ≡ Some i
some_if true n i h e = ap Some e
some_if false n i h e = absurd (true≢false (sym h))

none_if : (b : Bool) (n : ℕ) → b ≡ false → cond b (Some n) None ≡ None
none_if true n h = absurd (true≢false h)
none_if false n h = refl

pub first_place : (k : List ℕ) (ns : Names) (i : ℕ) → i < length ns → list_all (λ n. not (bytes_eq k n)) (take i ns) ≡ true → bytes_eq k (get_or ns i []) ≡ true → position (bytes_eq k) ns ≡ Some i
first_place k ns i h a f =
    let at : position_or_len (bytes_eq k) ns ≡ i = first_at (λ n. not (bytes_eq k n)) ns i h a (turned_false (bytes_eq k (get_or ns i [])) f) in
    let inside : nat_lt (position_or_len (bytes_eq k) ns) (length ns) ≡ true = grind (arith, nat_tests, at, h) in
    some_if (nat_lt (position_or_len (bytes_eq k) ns) (length ns)) (position_or_len (bytes_eq k) ns) i inside at

take_whole : (ns : Names) → take (length ns) ns ≡ ns
take_whole [] = refl
take_whole (n ∷ ns) = ap (λ l. n ∷ l) (take_whole ns)

pub no_place : (k : List ℕ) (ns : Names) (i : ℕ) → i ≡ length ns → list_all (λ n. not (bytes_eq k n)) (take i ns) ≡ true → position (bytes_eq k) ns ≡ None
no_place k ns i h a =
    let all : take i ns ≡ ns = ap (λ j. take j ns) h ∙ take_whole ns in
    let at : position_or_len (bytes_eq k) ns ≡ length ns = all_others (λ n. not (bytes_eq k n)) ns (ap (list_all (λ n. not (bytes_eq k n))) (sym all) ∙ a) in
    let outside : nat_lt (position_or_len (bytes_eq k) ns) (length ns) ≡ false = grind (arith, nat_tests, at) in
    none_if (nat_lt (position_or_len (bytes_eq k) ns) (length ns)) (position_or_len (bytes_eq k) ns) outside

first_below : (b : Bool) (n m : ℕ) → cond (not b) (1 + n) 0 < suc m → b ≡ false → n < m
first_below true n m h off = absurd (true≢false off)
first_below false n m h off = omega (arith, h)

both_false : (b c : Bool) → (b || c) ≡ false → (b ≡ false) × (c ≡ false)
both_false true c h = absurd (true≢false h)
both_false false c h = (refl, h)

either_or : (b c : Bool) → b ≡ false → c ≡ false → (b || c) ≡ false
either_or true c h g = absurd (true≢false h)
either_or false c h g = g

chosen : (b : Bool) (n i : ℕ) → cond b (Some n) None ≡ Some i → (b ≡ true) × (n ≡ i)
chosen true n i h =
    let same : n ≡ i = cc in
    (refl, same)
chosen false n i h = absurd (cc)

not_chosen : (b : Bool) (n : ℕ) → cond b (Some n) None ≡ None → b ≡ false
not_chosen true n h = absurd (cc)
not_chosen false n h = refl

module _ (t : List ℕ → Bool) where
  any_step : (b : Bool) (n m : ℕ) (c : Bool) → nat_lt (cond (not b) (1 + n) 0) (suc m) ≡ false → (nat_lt n m ≡ false → c ≡ false) → (b || c) ≡ false
  any_step true n m c h g =
      let within : 0 < suc m = omega arith in
      grind (arith, nat_tests, h, within)
  any_step false n m c h g = g (grind (arith, nat_tests, h))

  none_passes : (ns : Names) → nat_lt (position_or_len t ns) (length ns) ≡ false → list_any t ns ≡ false
  none_passes [] h = refl
  none_passes (n ∷ ns) h = any_step (t n) (position_or_len t ns) (length ns) (list_any t ns) h (none_passes ns)

  -- where a name has no place it is none of them
  pub placeless : (ns : Names) → position t ns ≡ None → list_any t ns ≡ false
  placeless ns h = none_passes ns (not_chosen (nat_lt (position_or_len t ns) (length ns)) (position_or_len t ns) h)

  module _ {X : Type 0} where
    found_step : (b : Bool) (v : X) (vs : List X) (rest : Option X) (m i : ℕ) → cond (not b) (1 + m) 0 ≡ i → (b ≡ false → rest ≡ slice_get vs m) → cond b (Some v) rest ≡ slice_get (v ∷ vs) i
    found_step true v vs rest m i e h = ap (slice_get (v ∷ vs)) e
    found_step false v vs rest m i e h =
        let one : suc m ≡ 1 + m = omega arith in
        h refl ∙ ap (slice_get (v ∷ vs)) (one ∙ e)

    found_first : (ns : Names) (vs : List X) (i : ℕ) → position_or_len t ns ≡ i → position_or_len t ns < length ns → length ns ≡ length vs → lookup t (zip ns vs) ≡ slice_get vs i
    found_first [] vs i e h n = absurd (omega (arith, h))
    found_first (k ∷ ks) [] i e h n = absurd (omega (arith, n))
    found_first (k ∷ ks) (v ∷ vs) i e h n =
        found_step (t k) v vs (lookup t (zip ks vs)) (position_or_len t ks) i e
        (λ off. found_first ks vs (position_or_len t ks) refl (first_below (t k) (position_or_len t ks) (length ks) h off) (omega (arith, n)))

    -- the value of a name stands at the name's place
    pub value_at_place : (ns : Names) (vs : List X) (i : ℕ) → length ns ≡ length vs → position t ns ≡ Some i → lookup t (zip ns vs) ≡ slice_get vs i
    value_at_place ns vs i n h =
        let c = chosen (nat_lt (position_or_len t ns) (length ns)) (position_or_len t ns) i h in
        let less : position_or_len t ns < length ns = grind (arith, nat_tests, c.0) in
        found_first ns vs i c.1 less n

    missed : (b : Bool) (c : Bool) (v : X) (rest : Option X) → (b || c) ≡ false → (c ≡ false → rest ≡ None) → cond b (Some v) rest ≡ None
    missed true c v rest h g = absurd (true≢false h)
    missed false c v rest h g = g h

    pub no_value : (ns : Names) (vs : List X) → list_any t ns ≡ false → lookup t (zip ns vs) ≡ None
    no_value [] vs h = refl
    no_value (k ∷ ks) [] h = refl
    no_value (k ∷ ks) (v ∷ vs) h = missed (t k) (list_any t ks) v (lookup t (zip ks vs)) h (no_value ks vs)

-- ---- a property that is written, or comes behind the others

module _ {X : Type 0} where
  got : (xs : List X) (i : ℕ) (x : X) → i < length xs → x ≡ get_or xs i x → slice_get xs i ≡ Some x
  got [] i x h e = absurd (omega (arith, h))
  got (y ∷ ys) zero x h e = ap Some (sym e)
  got (y ∷ ys) (suc i) x h e = got ys i x (omega (arith, h)) e

  past : (xs : List X) (i : ℕ) → length xs ≤ i → slice_get xs i ≡ None
  past [] i h = refl
  past (y ∷ ys) zero h = absurd (omega (arith, h))
  past (y ∷ ys) (suc i) h = past ys i (omega (arith, h))

  -- what a look at a place gives
  pub looked_at : (P : Bor X → Type 0) (r : Option (Bor X)) (xs : List X) (i : ℕ) → MatchOption r (length xs ≤ i) (λ x. (i < length xs) × P x) → IfSome r (λ x. x.now ≡ get_or xs i x.now) → option_copied r ≡ slice_get xs i
  looked_at P None xs i m e = sym (past xs i m)
  looked_at P (Some x) xs i m e = sym (got xs i x.now m.0 e)

  pub stands_at : (xs ns : List X) (i : ℕ) (x : X) → xs ≡ ns → i < length xs → x ≡ get_or xs i x → slice_get ns i ≡ Some x
  stands_at xs ns i x same h e = ap (λ ys. slice_get ys i) (sym same) ∙ got xs i x h e

  paired : (ns : Names) (vs : List X) (i : ℕ) (n : List ℕ) → length ns ≡ length vs → slice_get ns i ≡ Some n → (v : X) × (slice_get (zip ns vs) i ≡ Some (n, v))
  paired [] vs i n e g = absurd (cc)
  paired (x ∷ xs) [] i n e g = absurd (omega (arith, e))
  paired (x ∷ xs) (y ∷ ys) zero n e g =
      let is : x ≡ n = cc in
      (y, ap (λ k. Some (k, y)) is)
  paired (x ∷ xs) (y ∷ ys) (suc i) n e g = paired xs ys i n (omega (arith, e)) g

  pub is_there : (ns : Names) (vs : List X) (i : ℕ) (k n : List ℕ) → length ns ≡ length vs → slice_get ns i ≡ Some n → bytes_eq k n ≡ true → is_some (lookup (bytes_eq k) (zip ns vs)) ≡ true
  is_there ns vs i k n e g h =
      let p = paired ns vs i n e g in
      found_at (zip ns vs) k i (n, p.0) p.1 h

  pub written_there : (ns : Names) (vs : List X) (i : ℕ) (k n : List ℕ) (v : X) → length ns ≡ length vs → IsDistinct bytes_eq ns → slice_get ns i ≡ Some n → bytes_eq k n ≡ true → insert_entry bytes_eq (zip ns vs) k v ≡ set_value_at (zip ns vs) i v
  written_there ns vs i k n v e d g h =
      let p = paired ns vs i n e g in
      written_at (zip ns vs) k i (n, p.0) v (subst (IsDistinct bytes_eq) (sym (keys_of-zip ns vs (sym e))) d) p.1 h

  pub written_in_place : (ns : Names) (vs : List X) (i : ℕ) (k : List ℕ) (v : X) → length ns ≡ length vs → position (bytes_eq k) ns ≡ Some i → insert_entry bytes_eq (zip ns vs) k v ≡ set_value_at (zip ns vs) i v
  written_in_place ns vs i k v e h = written_first (zip ns vs) k i v (ap (position (bytes_eq k)) (keys_of-zip ns vs (sym e)) ∙ h)

  pub value_written : (ns : Names) (vs : List X) (i : ℕ) (v : X) → zip ns (set vs i v) ≡ set_value_at (zip ns vs) i v
  value_written [] vs i v = refl
  value_written (n ∷ ns) [] i v = refl
  value_written (n ∷ ns) (y ∷ vs) zero v = refl
  value_written (n ∷ ns) (y ∷ vs) (suc i) v = ap (λ l. (n, y) ∷ l) (value_written ns vs i v)

  pub value_pushed : (ns : Names) (vs : List X) (k : List ℕ) (v : X) → length ns ≡ length vs → zip (ns ++ k ∷ []) (vs ++ v ∷ []) ≡ zip ns vs ++ (k, v) ∷ []
  value_pushed [] [] k v e = refl
  value_pushed [] (y ∷ vs) k v e = absurd (omega (arith, e))
  value_pushed (n ∷ ns) [] k v e = absurd (omega (arith, e))
  value_pushed (n ∷ ns) (y ∷ vs) k v e = ap (λ l. (n, y) ∷ l) (value_pushed ns vs k v (omega (arith, e)))

  behind : (b c : Bool) (x : List ℕ × X) (v : X) (es fs gs : List (List ℕ × X)) → (b || c) ≡ false → (c ≡ false → fs ≡ gs) → (if b then (x.0, v) ∷ es else x ∷ fs) ≡ x ∷ gs
  behind true c x v es fs gs h g = absurd (true≢false h)
  behind false c x v es fs gs h g = ap (λ l. x ∷ l) (g h)

  comes_behind : (es : List (List ℕ × X)) (k : List ℕ) (v : X) → list_any (bytes_eq k) (keys_of es) ≡ false → insert_entry bytes_eq es k v ≡ es ++ (k, v) ∷ []
  comes_behind [] k v h = refl
  comes_behind (e ∷ es) k v h = behind (bytes_eq k e.0) (list_any (bytes_eq k) (keys_of es)) e v es (insert_entry bytes_eq es k v) (es ++ (k, v) ∷ []) h (comes_behind es k v)

  pub added_behind : (ns : Names) (vs : List X) (k : List ℕ) (v : X) → length ns ≡ length vs → list_any (bytes_eq k) ns ≡ false → insert_entry bytes_eq (zip ns vs) k v ≡ zip ns vs ++ (k, v) ∷ []
  added_behind ns vs k v e h = comes_behind (zip ns vs) k v (ap (list_any (bytes_eq k)) (keys_of-zip ns vs (sym e)) ∙ h)

-- ---- the names alone matter to the order of keys

pub indices_by_names : (done : List ℕ) (ns : Names) (vs : List Value) → length ns ≡ length vs → indices_from done (zip ns vs) ≡ indices_from done (all_nameless ns)
indices_by_names done [] vs e = refl
indices_by_names done (n ∷ ns) [] e = absurd (omega (arith, e))
indices_by_names done (n ∷ ns) (v ∷ vs) e = indices_by_names (with_index done (index_of n)) ns vs (omega (arith, e))

pub others_by_names : (ns : Names) (vs : List Value) → length ns ≡ length vs → other_names (zip ns vs) ≡ other_names (all_nameless ns)
others_by_names [] vs e = refl
others_by_names (n ∷ ns) [] e = absurd (omega (arith, e))
others_by_names (n ∷ ns) (v ∷ vs) e = ap (λ rest. if is_some (index_of n) then rest else n ∷ rest) (others_by_names ns vs (omega (arith, e)))
