-- A name of a scope that has a place now.
use Rattle.std.proofs.Common.{◌≡◌, ℕ, Bool, true, false, cond, eqb, List, Some, refl, ap, sym, ◌∙◌, inl, inr}
use Rattle.std.specs.Prelude.{option_and_then, bytes_eq}
use Rattle.std.specs.BTreeMap.{BTreeMap, get}
use Rattle.std.specs.Ordering.{is_eq, nat_cmp}
use Rattle.std.specs.Cmp.{unsigned_ties}
use Rattle.std.proofs.lemmas.Bool.Decides.{eqb_tells}
use Rattle.std.proofs.lemmas.Slice.Eq.{bytes_eq-Decides}
use Rattle.ng_base.specs.Order.{txt_cmp, txt_cmp-eq}
use Rattle.ng_events.specs.Names.{named, Names}

both-ways : (a b : Bool) → (a ≡ true → b ≡ true) → (b ≡ true → a ≡ true) → a ≡ b
both-ways true b f g = sym (f refl)
both-ways false true f g = g refl
both-ways false false f g = refl

-- the order of texts tells what `bytes_eq` tells
same-text : (n w : List ℕ) → is_eq (txt_cmp n w) ≡ bytes_eq w n
same-text n w = sym (txt_cmp-eq n w) ∙ both-ways (bytes_eq n w) (bytes_eq w n) (λ h. (bytes_eq-Decides w n).1 (sym ((bytes_eq-Decides n w).0 h))) (λ h. (bytes_eq-Decides n w).1 (sym ((bytes_eq-Decides w n).0 h)))

same-number : (s r : ℕ) → is_eq (nat_cmp s r) ≡ eqb s r
same-number s r = sym (unsigned_ties s r)

pub entered : (m k : BTreeMap ℕ (BTreeMap (List ℕ) ℕ)) (s : ℕ) (n : List ℕ) (i : ℕ) (names : BTreeMap (List ℕ) ℕ) → ((q : ℕ) → get nat_cmp k q ≡ cond (is_eq (nat_cmp s q)) (Some names) (get nat_cmp m q)) → ((w : List ℕ) → get txt_cmp names w ≡ cond (is_eq (txt_cmp n w)) (Some i) (named m s w)) → Names m s n i k
entered m k s n i names outer inner r w = elim (eqb_tells r s) [
  | inl y ↦
      ap (option_and_then (λ a. get txt_cmp a w)) (outer r ∙ ap (λ b. cond b (Some names) (get nat_cmp m r)) (same-number s r ∙ flipped r s y.0 y.1))
      ∙ (inner w ∙ rw (same-text n w, y.0, y.1) refl)
  | inr z ↦
      ap (option_and_then (λ a. get txt_cmp a w)) (outer r ∙ ap (λ b. cond b (Some names) (get nat_cmp m r)) (same-number s r ∙ apart r s z.1))
      ∙ rw z.0 refl
]
  where
    flipped : (r s : ℕ) → eqb r s ≡ true → r ≡ s → eqb s r ≡ true
    flipped r s e q = elim (eqb_tells s r) [ inl y ↦ y.0 | inr z ↦ absurd (z.1 (sym q)) ]

    apart : (r s : ℕ) → (r ≡ s → ⊥) → eqb s r ≡ false
    apart r s n = elim (eqb_tells s r) [ inl y ↦ absurd (n (sym y.1)) | inr z ↦ z.0 ]
