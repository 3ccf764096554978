-- Characters that stand for themselves, at once.
use Rattle.std.proofs.Common.{arith, ◌≡◌, ◌≢◌, ℕ, true, List, [], ◌∷◌, ◌++◌, refl, ap, ◌∙◌, sym, append_assoc, append-nil}
use Rattle.std.proofs.lemmas.Grind.{common_steps}
use Rattle.std.specs.List.{list_all}
use Rattle.ng_base.specs.Cells.{Cell}
use Rattle.ng_base.specs.Runs.{is_plain, IsPlain, Fronts}
use Rattle.ng_tags.specs.Spelling.{chars_of}
use Rattle.ng_tags.specs.Texts.{goes_on, decoded, text_from}
use Rattle.ng_tags.specs.declared.texts.Decoded.{Decoded}
use Rattle.ng_tags.specs.declared.until.Until.{Until}
use Rattle.ng_tags.specs.declared.until.Until.TheVariants as until
use Rattle.ng_tags.proofs.Runs.{both_true}
use Rattle.ng_tags.proofs.TextTurns.{text_goes_on}

-- a value without quotes ends before spaces, which stand for themselves elsewhere
plain_goes_on : (u : Until) → u ≢ until.Space → (c : ℕ) → is_plain c ≡ true → goes_on u c ≡ true
plain_goes_on until.Tag q c p = grind (arith, common_steps)
plain_goes_on until.Double q c p = grind (arith, common_steps)
plain_goes_on until.Single q c p = grind (arith, common_steps)
plain_goes_on until.Space q c p = absurd (q refl)
plain_goes_on (until.EndTag n) q c p = grind (arith, common_steps)

front_goes_on : (u : Until) → u ≢ until.Space → (d : Decoded) (front rest : List Cell) → list_all is_plain (chars_of front) ≡ true → text_from u d (front ++ rest) ≡ text_from u (decoded (d.text ++ chars_of front) d.fault) rest
front_goes_on u q d [] rest p = ap (λ t. text_from u (decoded t d.fault) rest) (sym (append-nil d.text))
front_goes_on u q d (c ∷ front) rest p =
    let each = both_true (is_plain c.0) (list_all is_plain (chars_of front)) p in
    text_goes_on u d c (front ++ rest) (plain_goes_on u q c.0 each.0)
    ∙ (front_goes_on u q (decoded (d.text ++ c.0 ∷ []) d.fault) front rest each.1
    ∙ ap (λ t. text_from u (decoded t d.fault) rest) (append_assoc d.text (c.0 ∷ []) (chars_of front)))

-- the text is the same where they are taken before
pub run_goes_on : (u : Until) → u ≢ until.Space → (d : Decoded) (us : List ℕ) (cs rest : List Cell) → Fronts us cs rest → IsPlain us → text_from u (decoded (d.text ++ us) d.fault) rest ≡ text_from u d cs
run_goes_on u q d us cs rest f p =
    ap (λ xs. text_from u (decoded (d.text ++ xs) d.fault) rest) (sym f.2)
    ∙ (sym (front_goes_on u q d f.0 rest (ap (list_all is_plain) f.2 ∙ p))
    ∙ ap (text_from u d) (sym f.1))
