-- The doctype at the front of a document, both ways.
use Rattle.std.proofs.Common.{◌≡◌, ℕ, true, false, List, [], ◌∷◌, ◌++◌, map, refl, ap, ◌∙◌, sym, subst, inl, inr}
use Rattle.std.specs.Prelude.{Option, None, Some, Result, Ok, Err, ◌==◌, codes}
use Rattle.std.specs.List.{list_all}
use Rattle.ng_base.specs.Cells.{Cell}
use Rattle.ng_base.proofs.Binds.{chosen, if_true, if_false}
use Rattle.ng_tags.specs.Free.{fault}
use Rattle.ng_tags.specs.Letters.{is_space, lower}
use Rattle.ng_tags.specs.Skips.{past_spaces, past_word}
use Rattle.ng_tags.specs.Lexing.{past_sign, doctype_behind, doctype_at, after_doctype}
use Rattle.ng_tags.specs.Spelling.{chars_of, AreSpaces}
use Rattle.ng_tags.specs.Doctypes.{BeginsDoctype, is_no_end, HasNoEnd, AfterDoctype, passed, endless, no_doctype}
use Rattle.ng_tags.specs.declared.fault.HtmlFault.{HtmlFault}
use Rattle.ng_tags.specs.declared.fault.HtmlKind.TheVariants as kind
use Rattle.ng_tags.proofs.Runs.{is_code, code_is, both, both_true, not_true, not_false, spaces_are, spaces_on}
use Rattle.ng_tags.proofs.EventSound.{word_is}

abbrev Answer : Type 0
Answer = Result (List Cell) HtmlFault

-- a word in small or capital letters
lower_word_on : (w : List ℕ) (us cs : List Cell) → map lower (chars_of us) ≡ w → past_word w (us ++ cs) ≡ Some cs
lower_word_on [] [] cs h = refl
lower_word_on [] (c ∷ us) cs h = absurd (cc (h))
lower_word_on (x ∷ w) [] cs h = absurd (cc (h))
lower_word_on (x ∷ w) (c ∷ us) cs h =
    let first : lower c.0 ≡ x = cc (h) in
    let more : map lower (chars_of us) ≡ w = cc (h) in
    if_true (lower c.0 == x) (past_word w (us ++ cs)) None (code_is (lower c.0) x first) ∙ lower_word_on w us cs more

sign_no_space : (c : ℕ) → c ≡ 60 → is_space c ≡ false
sign_no_space c h = subst (λ (n : ℕ). is_space n ≡ false) (sym h) refl

-- what begins a doctype is taken for one
begun_on : (cs : List Cell) (a : Cell) (more : List Cell) → BeginsDoctype cs a more → after_doctype cs ≡ past_sign a.1 more
begun_on cs a more b =
    let ds = b.word ++ more in
    ap (doctype_at cs) (ap past_spaces b.whole ∙ spaces_on b.spaces (a ∷ ds) b.are_spaces (sign_no_space a.0 b.is_sign))
    ∙ (if_true (a.0 == 60) (doctype_behind a.1 cs (past_word (codes "!doctype") ds)) (Ok cs) (code_is a.0 60 b.is_sign)
    ∙ ap (doctype_behind a.1 cs) (lower_word_on (codes "!doctype") b.word more b.is_word))

sign_on : (p : ℕ) (inner : List Cell) (z : Cell) (rest : List Cell) → HasNoEnd inner → z.0 ≡ 62 → past_sign p (inner ++ z ∷ rest) ≡ Ok rest
sign_on p [] z rest h e = if_true (z.0 == 62) (Ok rest) (past_sign p rest) (code_is z.0 62 e)
sign_on p (c ∷ inner) z rest h e =
    let b = both_true (is_no_end c.0) (list_all is_no_end (chars_of inner)) h in
    if_false (c.0 == 62) (Ok (inner ++ z ∷ rest)) (past_sign p (inner ++ z ∷ rest)) (not_false (c.0 == 62) b.0) ∙ sign_on p inner z rest b.1 e

endless_on : (p : ℕ) (cs : List Cell) → HasNoEnd cs → past_sign p cs ≡ Err (fault kind.BadTag p)
endless_on p [] h = refl
endless_on p (c ∷ cs) h =
    let b = both_true (is_no_end c.0) (list_all is_no_end (chars_of cs)) h in
    if_false (c.0 == 62) (Ok cs) (past_sign p cs) (not_false (c.0 == 62) b.0) ∙ endless_on p cs b.1

-- up to the next `>`
data SignRead (p : ℕ) (cs : List Cell) : Result (List Cell) HtmlFault → Type 0 where
  found : (inner : List Cell) (z : Cell) (rest : List Cell) → cs ≡ inner ++ z ∷ rest → HasNoEnd inner → z.0 ≡ 62 → SignRead p cs (Ok rest)
  missing : HasNoEnd cs → SignRead p cs (Err (fault kind.BadTag p))

one_more : (p : ℕ) (c : Cell) (cs : List Cell) (r : Result (List Cell) HtmlFault) → (c.0 == 62) ≡ false → SignRead p cs r → SignRead p (c ∷ cs) r
one_more p c cs r n (found inner z rest w h e) = found (c ∷ inner) z rest (ap (λ xs. c ∷ xs) w) (both (is_no_end c.0) (list_all is_no_end (chars_of inner)) (not_true (c.0 == 62) n) h) e
one_more p c cs r n (missing h) = missing (both (is_no_end c.0) (list_all is_no_end (chars_of cs)) (not_true (c.0 == 62) n) h)

sign_read : (p : ℕ) (cs : List Cell) → SignRead p cs (past_sign p cs)
sign_read p [] = missing refl
sign_read p (c ∷ cs) =
    elim (chosen (c.0 == 62) (Ok cs) (past_sign p cs) (past_sign p (c ∷ cs)) refl) [
      | inl g ↦ subst (SignRead p (c ∷ cs)) g.1 (found [] c cs refl refl (is_code c.0 62 g.0))
      | inr g ↦ subst (SignRead p (c ∷ cs)) g.1 (one_more p c cs (past_sign p cs) g.0 (sign_read p cs))
    ]

behind_read : (cs : List Cell) (a : Cell) (more : List Cell) (r : Result (List Cell) HtmlFault) → BeginsDoctype cs a more → SignRead a.1 more r → AfterDoctype cs r
behind_read cs a more r b (found inner z rest w h e) = passed a inner z rest (subst (BeginsDoctype cs a) w b) h e
behind_read cs a more r b (missing h) = endless a more b h

-- where no doctype begins, none is passed
abbrev none_left : List Cell → Result (List Cell) HtmlFault → Type 0
none_left cs r = r ≡ Ok cs

known : (cs : List Cell) (a : Cell) (ds : List Cell) (sp : List Cell) (o : Option (List Cell)) → cs ≡ sp ++ a ∷ ds → AreSpaces sp → a.0 ≡ 60 → past_spaces cs ≡ a ∷ ds → past_word (codes "!doctype") ds ≡ o → AfterDoctype cs (doctype_behind a.1 cs o)
known cs a ds sp (Some more) w s i e h =
    let x = word_is (codes "!doctype") ds more h in
    behind_read cs a more (past_sign a.1 more) (record { spaces = sp; word = x.us; whole = w ∙ ap (λ xs. sp ++ a ∷ xs) x.whole; are_spaces = s; is_sign = i; is_word = x.reads }) (sign_read a.1 more)
known cs a ds sp None w s i e h = no_doctype (λ c more b. absurd (no_word c more b))
  where
    no_word : (c : Cell) (more : List Cell) → BeginsDoctype cs c more → ⊥
    no_word c more b =
        let here : a ∷ ds ≡ c ∷ (b.word ++ more) = sym e ∙ (ap past_spaces b.whole ∙ spaces_on b.spaces (c ∷ (b.word ++ more)) b.are_spaces (sign_no_space c.0 b.is_sign)) in
        let rest : ds ≡ b.word ++ more = cc (here) in
        let f : Some more ≡ None = sym (lower_word_on (codes "!doctype") b.word more b.is_word) ∙ (ap (past_word (codes "!doctype")) (sym rest) ∙ h) in
        cc (f)

at_read : (cs ds : List Cell) → past_spaces cs ≡ ds → AfterDoctype cs (doctype_at cs ds)
at_read cs [] e = no_doctype (λ c more b. absurd (nothing c more b))
  where
    nothing : (c : Cell) (more : List Cell) → BeginsDoctype cs c more → ⊥
    nothing c more b =
        let here : [] ≡ c ∷ (b.word ++ more) = sym e ∙ (ap past_spaces b.whole ∙ spaces_on b.spaces (c ∷ (b.word ++ more)) b.are_spaces (sign_no_space c.0 b.is_sign)) in
        cc (here)
at_read cs (a ∷ ds) e =
    let s = spaces_are cs (a ∷ ds) e in
    elim (chosen (a.0 == 60) (doctype_behind a.1 cs (past_word (codes "!doctype") ds)) (Ok cs) (doctype_at cs (a ∷ ds)) refl) [
      | inl g ↦ subst (AfterDoctype cs) g.1 (known cs a ds s.s (past_word (codes "!doctype") ds) s.whole s.are (is_code a.0 60 g.0) e refl)
      | inr g ↦ subst (AfterDoctype cs) g.1 (no_doctype (λ c more b. absurd (other g.0 c more b)))
    ]
  where
    other : (a.0 == 60) ≡ false → (c : Cell) (more : List Cell) → BeginsDoctype cs c more → ⊥
    other n c more b =
        let here : a ∷ ds ≡ c ∷ (b.word ++ more) = sym e ∙ (ap past_spaces b.whole ∙ spaces_on b.spaces (c ∷ (b.word ++ more)) b.are_spaces (sign_no_space c.0 b.is_sign)) in
        let first : a ≡ c = cc (here) in
        let yes : true ≡ false = sym (code_is a.0 60 (ap (λ (x : Cell). x.0) first ∙ b.is_sign)) ∙ n in
        cc (yes)

pub doctype_sound : (cs : List Cell) → AfterDoctype cs (after_doctype cs)
doctype_sound cs = at_read cs (past_spaces cs) refl

absent_on : (cs : List Cell) (r : Result (List Cell) HtmlFault) → ((c : Cell) (more : List Cell) → BeginsDoctype cs c more → ⊥) → AfterDoctype cs r → r ≡ Ok cs
absent_on cs r n (passed a inner z rest b h e) = absurd (n a (inner ++ z ∷ rest) b)
absent_on cs r n (endless a behind b h) = absurd (n a behind b)
absent_on cs r n (no_doctype m) = refl

pub doctype_complete : (cs : List Cell) (r : Result (List Cell) HtmlFault) → AfterDoctype cs r → after_doctype cs ≡ r
doctype_complete cs r (passed a inner z rest b h e) = begun_on cs a (inner ++ z ∷ rest) b ∙ sign_on a.1 inner z rest h e
doctype_complete cs r (endless a behind b h) = begun_on cs a behind b ∙ endless_on a.1 behind h
doctype_complete cs r (no_doctype n) = absent_on cs (after_doctype cs) n (doctype_sound cs)
