-- The events of a text are such as were read.
use Rattle.std.proofs.Common.{◌≡◌, ◌≢◌, ℕ, Bool, true, false, ◌&&◌, ◌==◌, List, [], ◌∷◌, ◌++◌, refl, ◌∙◌, sym, subst, arith, inl, inr}
use Rattle.std.proofs.lemmas.Bool.Decides.{nat_tests}
use Rattle.std.specs.Prelude.{⊤, ◌⊎◌}
use Rattle.std.specs.List.{list_all}
use Rattle.ng_base.specs.Cells.{Cell}
use Rattle.ng_tags.specs.Texts.{ends, tag_follows}
use Rattle.ng_tags.specs.Spelling.{chars_of, Reads, no_more, itself, by_reference, ampersand, Ended, IsTextOf, Lexeme}
use Rattle.ng_tags.specs.declared.event.Event.{Event}
use Rattle.ng_tags.specs.declared.event.Event.TheVariants as event
use Rattle.ng_tags.specs.declared.until.Until.{Until}
use Rattle.ng_tags.specs.declared.until.Until.TheVariants as until
use Rattle.ng_html.specs.Grammar.{Written}
use Rattle.ng_html.proofs.PlainText.{is_cell_char}
use Rattle.ng_html.proofs.ReadTexts.{parts}
use Rattle.ng_html.proofs.ReadEvents.{lexeme_read}
use Rattle.ng_html.proofs.Kept.{IsGood, NoTexts, AreGood}

good : (e : Event) (us rest : List Cell) → Lexeme e us rest → list_all is_cell_char (chars_of us) ≡ true → IsGood e
good (event.Start t) us rest l h = (lexeme_read (event.Start t) us rest l h, l.has_content)
good (event.Raw t x q) us rest l h = (lexeme_read (event.Raw t x q) us rest l h, l.is_raw)
good (event.End n p) us rest l h = lexeme_read (event.End n p) us rest l h
good (event.Text t p) us rest l h = lexeme_read (event.Text t p) us rest l h
good (event.Comment t p) us rest l h = lexeme_read (event.Comment t p) us rest l h

-- what a text begins with: a character that doesn't end it, or a reference
abbrev FirstIs : Until → List Cell → List Cell → Type 0
FirstIs u rest [] = ⊤
FirstIs u rest (c ∷ us) = (ends u c.0 (us ++ rest) ≡ false) ⊎ (c.0 ≡ 38)

first_is : (u : Until) (rest us : List Cell) (t : List ℕ) → Reads u rest us t → FirstIs u rest us
first_is u rest us t no_more = tt
first_is u rest us t (itself c vs v a m r) = inl a
first_is u rest us t (by_reference c ws vs v x a m r) = inr a
first_is u rest us t (ampersand c vs v a m r) = inr a

not_both : (b : Bool) → b ≡ false → b ≡ true → ⊥
not_both true h i = absurd (cc)
not_both false h i = absurd (cc)

sign : (c : ℕ) (cs : List Cell) → ends until.Tag c cs ≡ true → c ≡ 60
sign c cs h = ends_sign (c == 60) refl (tag_follows cs) h
  where
    ends_sign : (b : Bool) → (c == 60) ≡ b → (d : Bool) → (b && d) ≡ true → c ≡ 60
    ends_sign true e d h = grind (arith, nat_tests, e)
    ends_sign false e d h = absurd (cc)

-- where a text ends, none begins
not_ended : (rest us : List Cell) → FirstIs until.Tag rest us → us ≢ [] → Ended until.Tag (us ++ rest) → ⊥
not_ended rest [] f n e = n refl
not_ended rest (c ∷ us) (inl f) n e = not_both (ends until.Tag c.0 (us ++ rest)) f e
not_ended rest (c ∷ us) (inr f) n e = let s = sign c.0 (us ++ rest) e in absurd (omega (arith, f, s))

texts_apart : (t u : List ℕ) (p q : ℕ) (us rest vs more : List Cell) → IsTextOf t p us rest → IsTextOf u q vs more → rest ≡ vs ++ more → ⊥
texts_apart t u p q us rest vs more a b e =
    not_ended more vs (first_is until.Tag more vs u b.reads) (λ k. let d = sym b.whole ∙ k in cc) (subst (λ (xs : List Cell). Ended until.Tag xs) e a.ended)

no_texts : (e : Event) (es : List Event) (us rest : List Cell) → Lexeme e us rest → Written es rest → NoTexts e es
no_texts (event.Text t p) (event.Text u q ∷ es) us rest l w = texts_apart t u p q us rest w.0 w.1 l w.3 w.2
no_texts (event.Text t p) [] us rest l w = tt
no_texts (event.Text t p) (event.Start s ∷ es) us rest l w = tt
no_texts (event.Text t p) (event.Raw s x q ∷ es) us rest l w = tt
no_texts (event.Text t p) (event.End n q ∷ es) us rest l w = tt
no_texts (event.Text t p) (event.Comment u q ∷ es) us rest l w = tt
no_texts (event.Start s) es us rest l w = tt
no_texts (event.Raw s x q) es us rest l w = tt
no_texts (event.End n p) es us rest l w = tt
no_texts (event.Comment t p) es us rest l w = tt

pub are_good : (es : List Event) (cs : List Cell) → Written es cs → list_all is_cell_char (chars_of cs) ≡ true → AreGood es
are_good [] cs w h = tt
are_good (e ∷ es) cs w h =
    let p = parts is_cell_char w.0 w.1 (subst (λ (xs : List Cell). list_all is_cell_char (chars_of xs) ≡ true) w.2 h) in
    (good e w.0 w.1 w.3 p.0, no_texts e es w.0 w.1 w.3 w.4, are_good es w.1 w.4 p.1)
