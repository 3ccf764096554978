-- Keys on one path.
use Rattle.std.proofs.Common.{◌≡◌, ℕ, Bool, true, false, List, refl, ap, ◌∙◌, sym, arith}
use Rattle.std.specs.Ordering.{is_eq, nat_cmp, ordering_then}
use Rattle.std.specs.declared.cmp.Ordering.{Ordering}
use Rattle.std.specs.declared.cmp.Ordering.TheVariants.{Less, Equal, Greater}
use Rattle.std.proofs.lemmas.Cmp.{tied_itself}
use Rattle.std.proofs.lemmas.Slice.Eq.{bytes_eq-Decides}
use Rattle.ng_base.specs.Order.{path_cmp, path_cmp-eq}
use Rattle.ng_base.specs.declared.path.Key.{Key}
use Rattle.ng_behaviour.specs.Keys.{key_cmp_total, is_key}
use Rattle.ng_build.specs.Shape.{key_on}

pub same_key : (k : Key) → is_key k k ≡ true
same_key k = ap is_eq (tied_itself key_cmp_total k)

then_equal : (o p : Ordering) → is_eq (ordering_then o p) ≡ true → (is_eq o ≡ true) × (is_eq p ≡ true)
then_equal Less p e = absurd (cc)
then_equal Equal p e = (refl, e)
then_equal Greater p e = absurd (cc)

pub equal_numbers : (m n : ℕ) → is_eq (nat_cmp m n) ≡ true → m ≡ n
equal_numbers m n e = grind (arith, e)

-- keys that compare alike are one
pub key_is : (k q : Key) → is_key k q ≡ true → k ≡ q
key_is k q e =
    let h = then_equal (path_cmp k.path q.path) (nat_cmp k.serial.0 q.serial.0) e in
    let paths : k.path ≡ q.path = (bytes_eq-Decides k.path q.path).0 (path_cmp-eq k.path q.path ∙ h.0) in
    let numbers : k.serial.0 ≡ q.serial.0 = equal_numbers k.serial.0 q.serial.0 h.1 in
    ap (λ (p : List ℕ). key_on p k.serial.0) paths ∙ ap (key_on q.path) numbers

-- another key
pub other_key : (k q : Key) → (q ≡ k → ⊥) → is_key k q ≡ false
other_key k q ne = by_test (is_key k q) refl
  where
    by_test : (b : Bool) → is_key k q ≡ b → b ≡ false
    by_test true e = absurd (ne (sym (key_is k q e)))
    by_test false e = refl
