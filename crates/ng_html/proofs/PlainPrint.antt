-- Characters that stand for themselves are printed as they are.
use Rattle.std.proofs.Common.{arith, ◌≡◌, ◌∙◌, ℕ, true, List, [], ◌∷◌, ◌++◌, refl, ap}
use Rattle.std.proofs.lemmas.Grind.{common_steps, flat_map-append}
use Rattle.std.specs.List.{list_all, flat_map}
use Rattle.ng_base.specs.Runs.{is_plain, IsPlain}
use Rattle.ng_markup.specs.Forest.{text_char, value_char}
use Rattle.ng_html.proofs.ReadTexts.{both_true}

plain_text_char : (c : ℕ) → is_plain c ≡ true → text_char c ≡ c ∷ []
plain_text_char c p = grind (arith, common_steps)

plain_value_char : (c : ℕ) → is_plain c ≡ true → value_char c ≡ c ∷ []
plain_value_char c p = grind (arith, common_steps)

plain_printed : (f : ℕ → List ℕ) → ((c : ℕ) → is_plain c ≡ true → f c ≡ c ∷ []) → (us : List ℕ) → list_all is_plain us ≡ true → flat_map f us ≡ us
plain_printed f g [] p = refl
plain_printed f g (u ∷ us) p =
    let each = both_true (is_plain u) (list_all is_plain us) p in
    ap (λ xs. xs ++ flat_map f us) (g u each.0) ∙ ap (λ xs. u ∷ xs) (plain_printed f g us each.1)

pub plain_text : (us vs : List ℕ) → IsPlain us → flat_map text_char (us ++ vs) ≡ us ++ flat_map text_char vs
plain_text us vs p = flat_map-append text_char us vs ∙ ap (λ xs. xs ++ flat_map text_char vs) (plain_printed text_char plain_text_char us p)

pub plain_value : (us vs : List ℕ) → IsPlain us → flat_map value_char (us ++ vs) ≡ us ++ flat_map value_char vs
plain_value us vs p = flat_map-append value_char us vs ∙ ap (λ xs. xs ++ flat_map value_char vs) (plain_printed value_char plain_value_char us p)
