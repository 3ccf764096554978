-- What a repeat says, as it is read and as it is spelled.
use Rattle.std.proofs.Common.{◌≡◌, ℕ, Bool, true, false, List, [], length, refl, ap, sym, subst, ◌∙◌, Option, Some, None, Result, Ok, Err, encode_utf8_all}
use Rattle.std.specs.Prelude.{IfOk, ◌||◌, if◌then◌else◌}
use Rattle.ng_base.specs.Meets.{Gives, ◌>>=◌}
use Rattle.ng_base.proofs.Binds.{bind_ok}
use Rattle.ng_language.specs.Choice.{when_some}
use Rattle.ng_language.specs.Grammar.{IsParsed}
use Rattle.ng_language.specs.Lexing.{lexed}
use Rattle.ng_language.specs.OneTime.{one_time_of}
use Rattle.ng_language.specs.Parsing.{parsed}
use Rattle.ng_language.specs.Trees.{Trees}
use Rattle.ng_language.proofs.SignSound.{lexed_is}
use Rattle.ng_language.proofs.LexComplete.{lexed_only}
use Rattle.ng_language.proofs.Whole.{parsed_is, parsed_only}
use Rattle.ng_language.specs.declared.syntax.Token.{Token}
use Rattle.ng_language.specs.declared.syntax.LexFault.{LexFault}
use Rattle.ng_language.specs.declared.syntax.ParseFault.{ParseFault}
use Rattle.ng_blocks.specs.Dividing.{cut_from}
use Rattle.ng_blocks.specs.Heads.{head_of}
use Rattle.ng_blocks.specs.Repeats.{Says, repeat_of, is_free, said, parsed_program, lexed_program, program_of, is_blank, untracked, tracked, tail_read, repeat_read}
use Rattle.ng_blocks.specs.RepeatSpelling.{SpellsTokens, IsNames, IsExpression, IsSource, IsTail, IsRepeat}
use Rattle.ng_blocks.specs.declared.dividing.Divider.TheVariants.{In, TrackBy}
use Rattle.ng_blocks.specs.declared.repeats.Head.{Head}
use Rattle.ng_blocks.specs.declared.repeats.Repeat.{Repeat}
use Rattle.ng_blocks.specs.declared.repeats.RepeatFault.{RepeatFault}
use Rattle.ng_blocks.specs.declared.repeats.RepeatFault.TheVariants.{BadRepeat}
use Rattle.ng_blocks.proofs.Cuts.{first_is, none_is, first_only, none_only}
use Rattle.ng_blocks.proofs.HeadLaws.{names_is, names_only}

abbrev Programmed : Trees → List ℕ → Type 0
Programmed b cs = (ts : List Token) × SpellsTokens ts cs × IsParsed b ts

parse_of : (r : Result Trees ParseFault) (b : Trees) → parsed_program r ≡ Ok b → r ≡ Ok b
parse_of (Ok x) b h = let same : x ≡ b = cc in ap Ok same
parse_of (Err f) b h = absurd (cc)

program_is : (cs : List ℕ) (b : Trees) → program_of cs ≡ Ok b → Programmed b cs
program_is cs b h = decide (lexed (length (encode_utf8_all cs)) cs) refl h
  where
    decide : (r : Result (List Token × List ℕ) LexFault) → lexed (length (encode_utf8_all cs)) cs ≡ r → lexed_program (length (encode_utf8_all cs)) r ≡ Ok b → Programmed b cs
    decide (Ok p) f g = (p.0, (p.1, lexed_is (length (encode_utf8_all cs)) cs p.0 p.1 f), parsed_is b p.0 p.1 (length (encode_utf8_all cs)) (parse_of (parsed p.0 p.1 (length (encode_utf8_all cs))) b g))
    decide (Err x) f g = absurd (cc)

program_only : (cs : List ℕ) (b : Trees) → Programmed b cs → program_of cs ≡ Ok b
program_only cs b k =
    let end = length (encode_utf8_all cs) in
    ap (lexed_program end) (lexed_only end cs k.0 k.1.0 k.1.1) ∙ ap parsed_program (parsed_only b k.0 k.1.0 end k.2)

abbrev Untracked : Head → Bool × List ℕ → Says → Type 0
Untracked h s r = (b : Trees) × (said h s.0 b None ≡ r) × IsExpression b s.1

untracked_is : (h : Head) (s : Bool × List ℕ) (r : Says) → untracked h s ≡ Ok r → Untracked h s r
untracked_is h s r e = decide (is_blank s.1) refl e
  where
    decide : (v : Bool) → is_blank s.1 ≡ v → (if v then Err BadRepeat else (program_of s.1 >>= λ b. Ok (said h s.0 b None))) ≡ Ok r → Untracked h s r
    decide true f g = absurd (cc)
    decide false f g =
        let (b, p, last) = bind_ok (program_of s.1) (λ b. Ok (said h s.0 b None)) r g in
        (b, cc, (f, program_is s.1 b p))

abbrev Tracked : Head → Bool × List ℕ → List ℕ → Says → Type 0
Tracked h s track r = (b : Trees) × (t : Trees) × (said h s.0 b (Some t) ≡ r) × IsExpression b s.1 × IsExpression t track

tracked_is : (h : Head) (s : Bool × List ℕ) (track : List ℕ) (r : Says) → tracked h s track ≡ Ok r → Tracked h s track r
tracked_is h s track r e = decide (is_blank s.1) (is_blank track) refl refl e
  where
    decide : (v w : Bool) → is_blank s.1 ≡ v → is_blank track ≡ w → (if v || w then Err BadRepeat else (program_of s.1 >>= λ b. program_of track >>= λ t. Ok (said h s.0 b (Some t)))) ≡ Ok r → Tracked h s track r
    decide true w f g k = absurd (cc)
    decide false true f g k = absurd (cc)
    decide false false f g k =
        let (b, p, more) = bind_ok (program_of s.1) (λ b. program_of track >>= λ t. Ok (said h s.0 b (Some t))) r k in
        let (t, q, last) = bind_ok (program_of track) (λ t. Ok (said h s.0 b (Some t))) r more in
        (b, t, cc, (f, program_is s.1 b p), (g, program_is track t q))

abbrev Tailed : List ℕ → List ℕ → Says → Type 0
Tailed head rest r = IsNames r.key r.name head × IsTail r.one_time r.source r.track rest

tail_is : (head rest : List ℕ) (h : Head) (r : Says) → IsNames h.key h.name head → tail_read h rest ≡ Ok r → Tailed head rest r
tail_is head rest h r names e = decide (cut_from TrackBy [] rest) refl e
  where
    decide : (o : Option (List ℕ × List ℕ)) → cut_from TrackBy [] rest ≡ o → when_some o (λ p. tracked h (one_time_of p.0) p.1) (untracked h (one_time_of rest)) ≡ Ok r → Tailed head rest r
    decide None f g =
        let (b, same, x) = untracked_is h (one_time_of rest) r g in
        subst (Tailed head rest) same (names, (none_is TrackBy rest f, ((one_time_of rest).1, refl, x)))
    decide (Some p) f g =
        let (b, t, same, x, y) = tracked_is h (one_time_of p.0) p.1 r g in
        subst (Tailed head rest) same (names, (p.0, p.1, first_is TrackBy rest p f, ((one_time_of p.0).1, refl, x), y))

read_is : (cs : List ℕ) (r : Says) → repeat_read cs ≡ Ok r → IsRepeat r cs
read_is cs r e = decide (cut_from In [] cs) refl e
  where
    named : (p : List ℕ × List ℕ) → cut_from In [] cs ≡ Some p → (o : Option Head) → head_of p.0 ≡ o → when_some o (λ h. tail_read h p.1) (Err BadRepeat) ≡ Ok r → IsRepeat r cs
    named p f None g k = absurd (cc)
    named p f (Some h) g k = let t = tail_is p.0 p.1 h r (names_is p.0 h g) k in (p.0, p.1, first_is In cs p f, t.0, t.1)

    decide : (o : Option (List ℕ × List ℕ)) → cut_from In [] cs ≡ o → when_some o (λ p. when_some (head_of p.0) (λ h. tail_read h p.1) (Err BadRepeat)) (Err BadRepeat) ≡ Ok r → IsRepeat r cs
    decide None f g = absurd (cc)
    decide (Some p) f g = named p f (head_of p.0) refl g

untracked_only : (h : Head) (once : Bool) (b : Trees) (cs : List ℕ) → IsSource once b cs → untracked h (one_time_of cs) ≡ Ok (said h once b None)
untracked_only h once b cs k =
    ap (untracked h) k.1
    ∙ ap (λ (v : Bool). if v then Err BadRepeat else (program_of k.0 >>= λ b. Ok (said h once b None))) k.2.0
    ∙ ap (λ (p : Result Trees RepeatFault). p >>= λ b. Ok (said h once b None)) (program_only k.0 b k.2.1)

tracked_only : (h : Head) (once : Bool) (b t : Trees) (cs track : List ℕ) → IsSource once b cs → IsExpression t track → tracked h (one_time_of cs) track ≡ Ok (said h once b (Some t))
tracked_only h once b t cs track k m =
    ap (λ s. tracked h s track) k.1
    ∙ ap (λ (v : Bool). if v || is_blank track then Err BadRepeat else (program_of k.0 >>= λ b. program_of track >>= λ t. Ok (said h once b (Some t)))) k.2.0
    ∙ ap (λ (v : Bool). if v then Err BadRepeat else (program_of k.0 >>= λ b. program_of track >>= λ t. Ok (said h once b (Some t)))) m.0
    ∙ ap (λ (p : Result Trees RepeatFault). p >>= λ b. program_of track >>= λ t. Ok (said h once b (Some t))) (program_only k.0 b k.2.1)
    ∙ ap (λ (p : Result Trees RepeatFault). p >>= λ t. Ok (said h once b (Some t))) (program_only track t m.1)

tail_only : (h : Head) (once : Bool) (b : Trees) (track : Option Trees) (rest : List ℕ) → IsTail once b track rest → tail_read h rest ≡ Ok (said h once b track)
tail_only h once b None rest k =
    ap (λ o. when_some o (λ p. tracked h (one_time_of p.0) p.1) (untracked h (one_time_of rest))) (none_only TrackBy rest k.0)
    ∙ untracked_only h once b rest k.1
tail_only h once b (Some t) rest k =
    ap (λ o. when_some o (λ p. tracked h (one_time_of p.0) p.1) (untracked h (one_time_of rest))) (first_only TrackBy rest k.0 k.1 k.2)
    ∙ tracked_only h once b t k.0 k.1 k.3 k.4

read_only : (cs : List ℕ) (r : Says) → IsRepeat r cs → repeat_read cs ≡ Ok r
read_only cs r k =
    ap (λ o. when_some o (λ p. when_some (head_of p.0) (λ h. tail_read h p.1) (Err BadRepeat)) (Err BadRepeat)) (first_only In cs k.0 k.1 k.2)
    ∙ ap (λ o. when_some o (λ h. tail_read h k.1) (Err BadRepeat)) (names_only k.0 r.key r.name k.3)
    ∙ tail_only (record { key = r.key; name = r.name }) r.one_time r.source r.track k.1 k.4

-- what is read is spelled so
pub found : (cs : List ℕ) (r : Result Repeat RepeatFault) → Gives is_free repeat_of (repeat_read cs) r → IfOk r (λ x. IsRepeat (repeat_of x) cs)
found cs (Ok x) g = read_is cs (repeat_of x) g
found cs (Err e) g = tt

-- what is spelled so is read
pub spelled_only : (cs : List ℕ) (s : Says) (r : Result Repeat RepeatFault) → Gives is_free repeat_of (repeat_read cs) r → IsRepeat s cs → Gives is_free repeat_of (Ok s) r
spelled_only cs s (Ok x) g h = sym (read_only cs s h) ∙ g
spelled_only cs s (Err e) g h = λ n. sym (read_only cs s h) ∙ g n
