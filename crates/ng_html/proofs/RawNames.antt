-- Elements of text alone are not void.
use Rattle.std.proofs.Common.{◌≡◌, ℕ, Bool, true, false, ◌||◌, List, refl, ap, ◌∙◌, inl, inr}
use Rattle.std.proofs.lemmas.Slice.Eq.{bytes_eq-Decides}
use Rattle.std.specs.Prelude.{◌⊎◌, codes}
use Rattle.std.specs.Str.{bytes_eq}
use Rattle.ng_markup.specs.Tables.{is_void, is_raw}

either_true : (a b : Bool) → (a || b) ≡ true → (a ≡ true) ⊎ (b ≡ true)
either_true true b h = inl refl
either_true false b h = inr h

raw_names : (n : List ℕ) → is_raw n ≡ true → (n ≡ codes "textarea") ⊎ (n ≡ codes "title")
unfolding is_raw
raw_names n h =
    elim (either_true (bytes_eq n (codes "textarea")) (bytes_eq n (codes "title")) h) [
      | inl a ↦ inl ((bytes_eq-Decides n (codes "textarea")).0 a)
      | inr a ↦ inr ((bytes_eq-Decides n (codes "title")).0 a)
    ]

textarea_not_void : is_void (codes "textarea") ≡ false
unfolding is_void
textarea_not_void = refl

title_not_void : is_void (codes "title") ≡ false
unfolding is_void
title_not_void = refl

pub raw_not_void : (n : List ℕ) → is_raw n ≡ true → is_void n ≡ false
raw_not_void n h =
    elim (raw_names n h) [
      | inl a ↦ ap is_void a ∙ textarea_not_void
      | inr a ↦ ap is_void a ∙ title_not_void
    ]

pub void_not_raw : (n : List ℕ) → is_void n ≡ true → is_raw n ≡ false
void_not_raw n v = by (is_raw n) refl
  where
    by : (b : Bool) → is_raw n ≡ b → b ≡ false
    by true h = let f = raw_not_void n h in absurd (cc)
    by false h = refl
