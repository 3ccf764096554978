-- The first key of a table that passes a test, where the keys that pass stand together from one on.
use Rattle.std.proofs.Common.{◌≡◌, ◌<◌, ℕ, Bool, true, false, cond, List, [], ◌∷◌, Option, Some, None, refl, ap, ◌∙◌, sym, length, arith}
use Rattle.std.specs.Prelude.{not, ◌&&◌}
use Rattle.std.specs.BTreeMap.{is_at}
use Rattle.std.specs.BTreeMap.Range.{entries_between}
use Rattle.std.specs.List.{AllByRecursion, filter}
use Rattle.std.specs.List.Sorted.{IsStrictlySortedBy}
use Rattle.std.specs.Map.{lookup, lookup_key, remove_entry, keys_of}
use Rattle.std.specs.Ordering.{is_eq, is_gt, is_le, nat_cmp, ordering_then}
use Rattle.std.specs.declared.cmp.Ordering.{Ordering}
use Rattle.std.specs.declared.cmp.Ordering.TheVariants.{Less, Equal, Greater}
use Rattle.std.specs.declared.ops.Bound.TheVariants.{Included, Unbounded}
use Rattle.std.proofs.lemmas.Cmp.{ranked}
use Rattle.std.proofs.lemmas.Map.Keys.{sorted_head, sorted_tail}
use Rattle.ng_base.specs.Order.{path_cmp}
use Rattle.ng_base.specs.declared.path.Key.{Key}
use Rattle.ng_behaviour.specs.Keys.{key_cmp, begins}
use Rattle.ng_build.specs.Shape.{key_on}
use Rattle.ng_build.proofs.Paths.{begins_after, begins_between}

not_passed : (o : Ordering) → is_le o ≡ true → is_gt o ≡ false
not_passed Less e = refl
not_passed Equal e = refl
not_passed Greater e = absurd (cc)

passed_by : (o : Ordering) → is_le o ≡ false → is_gt o ≡ true
passed_by Less e = absurd (cc)
passed_by Equal e = absurd (cc)
passed_by Greater e = refl

module _ {K : Type 0} (X : Type 0) (cmp : K → K → Ordering) (start : K) (test : K → Bool) (after : (q : K) → test q ≡ true → is_gt (cmp start q) ≡ false)
    (between : (e q : K) → is_gt (cmp start e) ≡ false → cmp e q ≡ Less → test q ≡ true → test e ≡ true) where
  abbrev reached : List (K × X) → List (K × X)
  reached es = entries_between cmp (Included start) Unbounded es

  abbrev pub first : List (K × X) → Option K
  first es = lookup_key test es

  no_pass : (k : K) → is_le (cmp start k) ≡ false → test k ≡ false
  no_pass k e = by_test (test k) refl
    where
      by_test : (b : Bool) → test k ≡ b → b ≡ false
      by_test true is = absurd (let two : true ≡ false = sym (passed_by (cmp start k) e) ∙ after k is in cc)
      by_test false is = refl

  skips : (e : K × X) (es : List (K × X)) → test e.0 ≡ false → first (e ∷ es) ≡ first es
  skips e es off = ap (λ (b : Bool). cond b (Some e.0) (first es)) off

  goes : (e : K × X) (es : List (K × X)) → is_le (cmp start e.0) ≡ false → reached (e ∷ es) ≡ reached es
  goes e es off = ap (λ (b : Bool). cond (b && not false) (e ∷ reached es) (reached es)) off

  stays : (e : K × X) (es : List (K × X)) → is_le (cmp start e.0) ≡ true → reached (e ∷ es) ≡ e ∷ reached es
  stays e es on = ap (λ (b : Bool). cond (b && not false) (e ∷ reached es) (reached es)) on

  -- where none is reached, none passes
  pub none_reached : (es : List (K × X)) → reached es ≡ [] → first es ≡ None
  none_reached [] e = refl
  none_reached (x ∷ xs) e = by_test (is_le (cmp start x.0)) refl (none_reached xs)
    where
      by_test : (b : Bool) → is_le (cmp start x.0) ≡ b → (reached xs ≡ [] → first xs ≡ None) → first (x ∷ xs) ≡ None
      by_test true on more = absurd (let two : x ∷ reached xs ≡ [] = sym (stays x xs on) ∙ e in cc)
      by_test false off more = skips x xs (no_pass x.0 off) ∙ more (sym (goes x xs off) ∙ e)

  none_after : (k : K) → is_gt (cmp start k) ≡ false → test k ≡ false → (es : List (K × X)) → AllByRecursion (λ y. cmp k y ≡ Less) (keys_of es) → first es ≡ None
  none_after k from off [] all = refl
  none_after k from off (x ∷ xs) all = skips x xs (by_test (test x.0) refl) ∙ none_after k from off xs all.1
    where
      by_test : (b : Bool) → test x.0 ≡ b → b ≡ false
      by_test true is = absurd (let two : true ≡ false = sym (between k x.0 from all.0 is) ∙ off in cc)
      by_test false is = refl

  -- the first that is reached passes, or none does
  pub first_reached : (es : List (K × X)) → IsStrictlySortedBy cmp (keys_of es) → (e : K × X) (rest : List (K × X)) → reached es ≡ e ∷ rest → first es ≡ cond (test e.0) (Some e.0) None
  first_reached [] ordered e rest is = absurd (cc)
  first_reached (x ∷ xs) ordered e rest is = by_test (is_le (cmp start x.0)) refl (first_reached xs (sorted_tail cmp x.0 (keys_of xs) ordered) e rest)
    where
      by_pass : (b : Bool) → test x.0 ≡ b → is_gt (cmp start x.0) ≡ false → first (x ∷ xs) ≡ cond b (Some x.0) None
      by_pass true t from = ap (λ (b : Bool). cond b (Some x.0) (first xs)) t
      by_pass false t from = skips x xs t ∙ none_after x.0 from t xs (sorted_head cmp x.0 (keys_of xs) ordered)

      by_test : (b : Bool) → is_le (cmp start x.0) ≡ b → (reached xs ≡ e ∷ rest → first xs ≡ cond (test e.0) (Some e.0) None) → first (x ∷ xs) ≡ cond (test e.0) (Some e.0) None
      by_test true on more =
          let two : x ∷ reached xs ≡ e ∷ rest = sym (stays x xs on) ∙ is in
          let one : x ≡ e = cc in
          by_pass (test x.0) refl (not_passed (cmp start x.0) on) ∙ ap (λ (y : K × X). cond (test y.0) (Some y.0) None) one
      by_test false off more = skips x xs (no_pass x.0 off) ∙ more (sym (goes x xs off) ∙ is)

-- what passes is taken out, one after another
module _ {K : Type 0} (X : Type 0) (cmp : K → K → Ordering) (exact : (a b : K) → is_eq (cmp a b) ≡ true → a ≡ b) (itself : (a : K) → is_eq (cmp a a) ≡ true) (test : K → Bool) where
  abbrev kept : List (K × X) → List (K × X)
  kept es = filter (λ (e : K × X). not (test e.0)) es

  pub none_passes : (es : List (K × X)) → lookup_key test es ≡ None → kept es ≡ es
  none_passes [] e = refl
  none_passes (x ∷ xs) e = by_test (test x.0) e (none_passes xs)
    where
      by_test : (b : Bool) → cond b (Some x.0) (lookup_key test xs) ≡ None → (lookup_key test xs ≡ None → kept xs ≡ xs) → cond (not b) (x ∷ kept xs) (kept xs) ≡ x ∷ xs
      by_test true h more = absurd (cc)
      by_test false h more = ap (λ (ys : List (K × X)). x ∷ ys) (more h)

  -- the first that passes is there
  pub passes : (q : K) (es : List (K × X)) → lookup_key test es ≡ Some q → test q ≡ true
  passes q [] e = absurd (cc)
  passes q (x ∷ xs) e = by_test (test x.0) refl e (passes q xs)
    where
      by_test : (b : Bool) → test x.0 ≡ b → cond b (Some x.0) (lookup_key test xs) ≡ Some q → (lookup_key test xs ≡ Some q → test q ≡ true) → test q ≡ true
      by_test true is h more = let same : x.0 ≡ q = cc in ap test (sym same) ∙ is
      by_test false is h more = more h

  apart : (x q : K) → test x ≡ false → test q ≡ true → is_at (cmp q) x ≡ false
  apart x q off on = by_test (is_eq (cmp q x)) refl
    where
      by_test : (b : Bool) → is_eq (cmp q x) ≡ b → b ≡ false
      by_test true is = absurd (let two : true ≡ false = sym on ∙ (ap test (exact q x is) ∙ off) in cc)
      by_test false is = refl

  pub first_there : (q : K) (es : List (K × X)) → lookup_key test es ≡ Some q → (v : X) × (lookup (is_at (cmp q)) es ≡ Some v)
  first_there q [] e = absurd (cc)
  first_there q (x ∷ xs) e = by_test (test x.0) refl e (first_there q xs)
    where
      by_test : (b : Bool) → test x.0 ≡ b → cond b (Some x.0) (lookup_key test xs) ≡ Some q → (lookup_key test xs ≡ Some q → (v : X) × (lookup (is_at (cmp q)) xs ≡ Some v)) → (v : X) × (lookup (is_at (cmp q)) (x ∷ xs) ≡ Some v)
      by_test true is h more =
          let same : x.0 ≡ q = cc in
          (x.1, ap (λ (b : Bool). cond b (Some x.1) (lookup (is_at (cmp q)) xs)) (ap (λ (k : K). is_eq (cmp q k)) same ∙ itself q))
      by_test false is h more =
          let rest = more h in
          (rest.0, ap (λ (b : Bool). cond b (Some x.1) (lookup (is_at (cmp q)) xs)) (apart x.0 q is (passes q xs h)) ∙ rest.1)

  pub first_taken : (q : K) (es : List (K × X)) → lookup_key test es ≡ Some q → kept (remove_entry (is_at (cmp q)) es) ≡ kept es
  first_taken q [] e = absurd (cc)
  first_taken q (x ∷ xs) e = by_test (test x.0) refl e (first_taken q xs)
    where
      removed : Bool → List (K × X)
      removed b = cond b xs (x ∷ remove_entry (is_at (cmp q)) xs)

      by_test : (b : Bool) → test x.0 ≡ b → cond b (Some x.0) (lookup_key test xs) ≡ Some q → (lookup_key test xs ≡ Some q → kept (remove_entry (is_at (cmp q)) xs) ≡ kept xs) → kept (remove_entry (is_at (cmp q)) (x ∷ xs)) ≡ kept (x ∷ xs)
      by_test true is h more =
          let same : x.0 ≡ q = cc in
          ap (λ (b : Bool). kept (removed b)) (ap (λ (k : K). is_eq (cmp q k)) same ∙ itself q) ∙ sym (ap (λ (b : Bool). cond (not b) (x ∷ kept xs) (kept xs)) is)
      by_test false is h more =
          ap (λ (b : Bool). kept (removed b)) (apart x.0 q is (passes q xs h))
          ∙ (ap (λ (b : Bool). cond (not b) (x ∷ kept (remove_entry (is_at (cmp q)) xs)) (kept (remove_entry (is_at (cmp q)) xs))) is
          ∙ (ap (λ (ys : List (K × X)). x ∷ ys) (more h) ∙ sym (ap (λ (b : Bool). cond (not b) (x ∷ kept xs) (kept xs)) is)))

-- a table with one entry less is shorter
pub taken_shorter : {K X : Type 0} (test : K → Bool) (es : List (K × X)) (v : X) → lookup test es ≡ Some v → length (remove_entry test es) < length es
taken_shorter test [] v e = absurd (cc)
taken_shorter test (x ∷ xs) v e = by_test (test x.0) e (taken_shorter test xs v)
  where
    by_test : (b : Bool) → cond b (Some x.1) (lookup test xs) ≡ Some v → (lookup test xs ≡ Some v → length (remove_entry test xs) < length xs) → length (cond b xs (x ∷ remove_entry test xs)) < length (x ∷ xs)
    by_test true h more = omega arith
    by_test false h more = let rest = more h in omega (arith, rest)

pub first_shorter : {K X : Type 0} (cmp : K → K → Ordering) → ((a b : K) → is_eq (cmp a b) ≡ true → a ≡ b) → ((a : K) → is_eq (cmp a a) ≡ true) → (test : K → Bool) (q : K) (es left : List (K × X))
    → lookup_key test es ≡ Some q → left ≡ remove_entry (is_at (cmp q)) es → length left < length es
first_shorter {X = X} cmp exact itself test q es left first is =
    let there = first_there X cmp exact itself test q es first in
    let lt = taken_shorter (is_at (cmp q)) es there.0 there.1 in
    let many : length left ≡ length (remove_entry (is_at (cmp q)) es) = ap length is in
    omega (arith, lt, many)

-- paths that begin with one stand together, and keys on them, too
not_more : (o : Ordering) → o ≡ Less → is_gt o ≡ false
not_more o e = ap is_gt e

module _ (X : Type 0) (p : List ℕ) where
  path_between : (e q : List ℕ) → is_gt (path_cmp p e) ≡ false → path_cmp e q ≡ Less → begins p q ≡ true → begins p e ≡ true
  path_between e q from less on = begins_between p e q on from (not_more (path_cmp e q) less)

  pub none_below : (es : List (List ℕ × X)) → entries_between path_cmp (Included p) Unbounded es ≡ [] → lookup_key (begins p) es ≡ None
  none_below es is = none_reached X path_cmp p (begins p) (begins_after p) path_between es is

  pub first_below : (es : List (List ℕ × X)) → IsStrictlySortedBy path_cmp (keys_of es) → (e : List ℕ × X) (rest : List (List ℕ × X)) → entries_between path_cmp (Included p) Unbounded es ≡ e ∷ rest
      → lookup_key (begins p) es ≡ cond (begins p e.0) (Some e.0) None
  first_below es ordered e rest is = first_reached X path_cmp p (begins p) (begins_after p) path_between es ordered e rest is

  abbrev on : Key → Bool
  on k = begins p k.path

  zero_first : (n : ℕ) → is_gt (nat_cmp 0 n) ≡ false
  zero_first n = by_order (nat_cmp 0 n) refl
    where
      by_order : (o : Ordering) → nat_cmp 0 n ≡ o → is_gt o ≡ false
      by_order Less e = refl
      by_order Equal e = refl
      by_order Greater e = absurd (let lt : n < 0 = ranked 0 n Greater (sym e) in omega (arith, lt))

  key_after : (q : Key) → on q ≡ true → is_gt (key_cmp (key_on p 0) q) ≡ false
  key_after q is = by_order (path_cmp p q.path) (begins_after p q.path is)
    where
      by_order : (o : Ordering) → is_gt o ≡ false → is_gt (ordering_then o (nat_cmp 0 q.serial.0)) ≡ false
      by_order Less e = refl
      by_order Equal e = zero_first q.serial.0
      by_order Greater e = absurd (cc)

  first_part : (o r : Ordering) → is_gt (ordering_then o r) ≡ false → is_gt o ≡ false
  first_part Less r e = refl
  first_part Equal r e = refl
  first_part Greater r e = e

  key_between : (e q : Key) → is_gt (key_cmp (key_on p 0) e) ≡ false → key_cmp e q ≡ Less → on q ≡ true → on e ≡ true
  key_between e q from less is =
      begins_between p e.path q.path is (first_part (path_cmp p e.path) (nat_cmp 0 e.serial.0) from) (first_part (path_cmp e.path q.path) (nat_cmp e.serial.0 q.serial.0) (not_more (key_cmp e q) less))

  pub none_on : (es : List (Key × X)) → entries_between key_cmp (Included (key_on p 0)) Unbounded es ≡ [] → lookup_key on es ≡ None
  none_on es is = none_reached X key_cmp (key_on p 0) on key_after key_between es is

  pub first_on : (es : List (Key × X)) → IsStrictlySortedBy key_cmp (keys_of es) → (e : Key × X) (rest : List (Key × X)) → entries_between key_cmp (Included (key_on p 0)) Unbounded es ≡ e ∷ rest
      → lookup_key on es ≡ cond (on e.0) (Some e.0) None
  first_on es ordered e rest is = first_reached X key_cmp (key_on p 0) on key_after key_between es ordered e rest is
