-- Numbers that rise, and what stands under each.
use Rattle.std.proofs.Common.{◌≡◌, ◌≤◌, ◌<◌, ◌+◌, ℕ, zero, suc, Bool, true, false, cond, List, [], ◌∷◌, ◌++◌, Some, refl, ap, ◌∙◌, sym, length, arith, slice_get, subst, append_assoc, append-nil}
use Rattle.std.specs.Prelude.{◌||◌}
use Rattle.std.specs.BTreeMap.{insert_entry, is_at}
use Rattle.std.specs.List.{AllByRecursion, list_any}
use Rattle.std.specs.List.Sorted.{IsStrictlySortedBy}
use Rattle.std.specs.Map.{lookup, keys_of}
use Rattle.std.specs.Ordering.{is_eq, nat_cmp, match_ordering}
use Rattle.std.specs.declared.cmp.Ordering.{Ordering}
use Rattle.std.specs.declared.cmp.Ordering.TheVariants.{Less, Greater}
use Rattle.std.proofs.lemmas.Bool.Decides.{nat_tests}
use Rattle.std.proofs.lemmas.Cmp.{nat_cmp_total, ranked, tied_itself}
use Rattle.std.proofs.lemmas.Map.Keys.{sorted_head, sorted_tail}
use Rattle.ng_instances.specs.Rows.{spots_by}
use Rattle.ng_build.proofs.Keys.{equal_numbers}

-- a number that is among others has a place there
pub number_at : (s : ℕ) (ns : List ℕ) → list_any (is_at (nat_cmp s)) ns ≡ true → (j : ℕ) × (slice_get ns j ≡ Some s)
number_at s [] e = absurd (cc)
number_at s (n ∷ ns) e = by_test (is_at (nat_cmp s) n) refl e (number_at s ns)
  where
    by_test : (b : Bool) → is_at (nat_cmp s) n ≡ b → (b || list_any (is_at (nat_cmp s)) ns) ≡ true → (list_any (is_at (nat_cmp s)) ns ≡ true → (j : ℕ) × (slice_get ns j ≡ Some s))
        → (j : ℕ) × (slice_get (n ∷ ns) j ≡ Some s)
    by_test true is h more = (0, ap Some (sym (equal_numbers s n is)))
    by_test false is h more = let there = more h in (suc there.0, there.1)

is_same : (n : ℕ) → is_at (nat_cmp n) n ≡ true
is_same n = ap is_eq (tied_itself nat_cmp_total n)

pub above : (m n : ℕ) → nat_cmp m n ≡ Less → m < n
above m n e = ranked m n Less (sym e)

is_greater : (m n : ℕ) → n < m → nat_cmp m n ≡ Greater
is_greater m n lt = grind (arith, nat_tests)

-- what holds of all holds at each place
pub all_at_place : (P : ℕ → Type 0) (ns : List ℕ) (j n : ℕ) → AllByRecursion P ns → slice_get ns j ≡ Some n → P n
all_at_place P [] j n h e = absurd (cc)
all_at_place P (m ∷ ms) zero n h e = let same : m ≡ n = cc in subst P same h.0
all_at_place P (m ∷ ms) (suc j) n h e = all_at_place P ms j n h.1 e

-- the numbers after the first are others
pub first_apart : (s : ℕ) (ns : List ℕ) (j n : ℕ) → IsStrictlySortedBy nat_cmp (s ∷ ns) → slice_get ns j ≡ Some n → s ≡ n → ⊥
first_apart s ns j n o e same =
    let less : nat_cmp s n ≡ Less = all_at_place (λ y. nat_cmp s y ≡ Less) ns j n (sorted_head nat_cmp s ns o) e in
    let lt = above s n less in
    omega (arith, same, lt)

pub not_at : (m n : ℕ) → (m ≡ n → ⊥) → is_at (nat_cmp m) n ≡ false
not_at m n ne = by_test (is_at (nat_cmp m) n) refl
  where
    by_test : (b : Bool) → is_at (nat_cmp m) n ≡ b → b ≡ false
    by_test true e = absurd (ne (equal_numbers m n e))
    by_test false e = refl

-- numbers with what stands under each
abbrev pub paired : List ℕ → List ℕ → List (ℕ × ℕ)
paired [] ns = []
paired (s ∷ ss) [] = []
paired (s ∷ ss) (n ∷ ns) = (s, n) ∷ paired ss ns

pub paired_keys : (ss ns : List ℕ) → length ss ≡ length ns → keys_of (paired ss ns) ≡ ss
paired_keys [] ns e = refl
paired_keys (s ∷ ss) [] e = absurd (omega (arith, e))
paired_keys (s ∷ ss) (n ∷ ns) e = ap (λ (ms : List ℕ). s ∷ ms) (paired_keys ss ns (omega (arith, e)))

-- each is found under its number
pub paired_found : (ss ns : List ℕ) (j s n : ℕ) → IsStrictlySortedBy nat_cmp ss → slice_get ss j ≡ Some s → slice_get ns j ≡ Some n → lookup (is_at (nat_cmp s)) (paired ss ns) ≡ Some n
paired_found [] ns j s n o at is = absurd (cc)
paired_found (r ∷ rs) [] j s n o at is = absurd (cc)
paired_found (r ∷ rs) (m ∷ ms) zero s n o at is =
    let one : s ≡ r = cc in
    let two : m ≡ n = cc in
    let here : is_at (nat_cmp s) r ≡ true = ap (is_at (nat_cmp s)) (sym one) ∙ is_same s in
    ap (λ (b : Bool). cond b (Some m) (lookup (is_at (nat_cmp s)) (paired rs ms))) here ∙ ap Some two
paired_found (r ∷ rs) (m ∷ ms) (suc j) s n o at is =
    let ne : r ≡ s → ⊥ = first_apart r rs j s o at in
    let off : is_at (nat_cmp s) r ≡ false = not_at s r (λ e. ne (sym e)) in
    ap (λ (b : Bool). cond b (Some m) (lookup (is_at (nat_cmp s)) (paired rs ms))) off ∙ paired_found rs ms j s n (sorted_tail nat_cmp r rs o) at is

-- an entry above all others goes to the end
insert_last : (es : List (ℕ × ℕ)) (s n : ℕ) → AllByRecursion (λ (e : ℕ × ℕ). e.0 < s) es → insert_entry nat_cmp es s n ≡ es ++ (s, n) ∷ []
insert_last [] s n h = refl
insert_last (e ∷ es) s n h =
    ap (λ (o : Ordering). match_ordering o ((s, n) ∷ e ∷ es) ((e.0, n) ∷ es) (e ∷ insert_entry nat_cmp es s n)) (is_greater s e.0 h.0)
    ∙ ap (λ (ys : List (ℕ × ℕ)). e ∷ ys) (insert_last es s n h.1)

keys_below : (m n : ℕ) (es : List (ℕ × ℕ)) → m ≤ n → AllByRecursion (λ (e : ℕ × ℕ). e.0 < m) es → AllByRecursion (λ (e : ℕ × ℕ). e.0 < n) es
keys_below m n [] le h = tt
keys_below m n (e ∷ es) le h = (omega (arith, le, h.0), keys_below m n es le h.1)

one_below : (s n : ℕ) (es : List (ℕ × ℕ)) → AllByRecursion (λ (e : ℕ × ℕ). e.0 < s + 1) es → AllByRecursion (λ (e : ℕ × ℕ). e.0 < s + 1) (es ++ (s, n) ∷ [])
one_below s n [] h = (omega arith, tt)
one_below s n (e ∷ es) h = (h.0, one_below s n es h.1)

all_above : (s : ℕ) (ns : List ℕ) → AllByRecursion (λ y. nat_cmp s y ≡ Less) ns → AllByRecursion (λ y. s + 1 ≤ y) ns
all_above s [] h = tt
all_above s (n ∷ ns) h = (let lt = above s n h.0 in omega (arith, lt), all_above s ns h.1)

-- what is entered under numbers that rise stands in their order
spots_from : (low : ℕ) (ss ns : List ℕ) (es : List (ℕ × ℕ)) → IsStrictlySortedBy nat_cmp ss → AllByRecursion (λ y. low ≤ y) ss → AllByRecursion (λ (e : ℕ × ℕ). e.0 < low) es
    → spots_by ss ns es ≡ es ++ paired ss ns
spots_from low [] ns es o from below = sym (append-nil es)
spots_from low (s ∷ ss) [] es o from below = sym (append-nil es)
spots_from low (s ∷ ss) (n ∷ ns) es o from below =
    let last : insert_entry nat_cmp es s n ≡ es ++ (s, n) ∷ [] = insert_last es s n (keys_below low s es from.0 below) in
    ap (spots_by ss ns) last
    ∙ (spots_from (s + 1) ss ns (es ++ (s, n) ∷ []) (sorted_tail nat_cmp s ss o) (all_above s ss (sorted_head nat_cmp s ss o)) (one_below s n es (keys_below low (s + 1) es (let le = from.0 in omega (arith, le)) below))
    ∙ append_assoc es ((s, n) ∷ []) (paired ss ns))

all_from_none : (ns : List ℕ) → AllByRecursion (λ y. 0 ≤ y) ns
all_from_none [] = tt
all_from_none (n ∷ ns) = (omega arith, all_from_none ns)

pub spots_are : (ss ns : List ℕ) → IsStrictlySortedBy nat_cmp ss → spots_by ss ns [] ≡ paired ss ns
spots_are ss ns o = spots_from 0 ss ns [] o (all_from_none ss) tt
