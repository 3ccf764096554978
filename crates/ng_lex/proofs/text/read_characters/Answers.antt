use Rattle.std.proofs.Common.{rules, ◌≡◌, ◌∷◌, ◌++◌, [], List, ℕ, suc, length, ap, ◌∙◌, sym, subst, arith, nat_eq}
use Rattle.std.specs.Prelude.{false, true, Err, Result}
use Rattle.std.proofs.lemmas.Bool.Decides.{nat_tests}
use Rattle.ng_base.specs.Cells.{place}
use Rattle.ng_language.specs.Lexing.{character, text_run, is_free}
use Rattle.ng_language.specs.declared.syntax.LexFault.{LexFault}
use Rattle.ng_language.specs.declared.syntax.Token.{Token}
use Rattle.ng_lex.proofs.Rooms.{TextRoom, text_ends, text_on, text_err, text_over}
use Rattle.ng_lex.proofs.text.read_characters.Goals as goal

pub returns-then-c-quote-clause-read : goal.returns-then-c-quote-clause-read
returns-then-c-quote-clause-read c =
    let whole : Result (Token × List ℕ) LexFault = text_run c.args.total (suc (length c.args.reader)) c.args.quote c.new-text.result c.args.reader in
    let room : TextRoom c.args.total c.args.quote c.loop-c.text (c.in-Some.c ∷ c.in-Some.rest) whole = subst (λ (cs : List ℕ). TextRoom c.args.total c.args.quote c.loop-c.text cs whole) c.in-Some.ensures c.loop-c.invariant.0 in
    let yes : nat_eq c.in-Some.c c.args.quote ≡ true = grind (arith, nat_tests) in
    ap (λ (t : List ℕ). text_run c.args.total (suc (length c.args.reader)) c.args.quote t c.args.reader) (sym c.new-text.ensures)
    ∙ text_ends c.args.total c.args.quote c.in-Some.c c.loop-c.text c.in-Some.rest whole room yes

pub returns-in_err-c-clause-read : goal.returns-in_err-c-clause-read
returns-in_err-c-clause-read c =
    let whole : Result (Token × List ℕ) LexFault = text_run c.args.total (suc (length c.args.reader)) c.args.quote c.new-text.result c.args.reader in
    let room : TextRoom c.args.total c.args.quote c.loop-c.text (c.in-Some.c ∷ c.in-Some.rest) whole = subst (λ (cs : List ℕ). TextRoom c.args.total c.args.quote c.loop-c.text cs whole) c.in-Some.ensures c.loop-c.invariant.0 in
    let no : nat_eq c.in-Some.c c.args.quote ≡ false = grind (arith, nat_tests) in
    let at : c.place_of-place.result ≡ place c.args.total (c.in-Some.c ∷ c.in-Some.rest) = c.place_of-place.ensures ∙ ap (place c.args.total) c.in-Some.ensures in
    let fact : is_free c.in_err-c.field-0.0 ≡ false → text_run c.args.total (suc (length c.args.reader)) c.args.quote [] c.args.reader ≡ Err c.in_err-c.field-0.0 =
    λ free.
    ap (λ (t : List ℕ). text_run c.args.total (suc (length c.args.reader)) c.args.quote t c.args.reader) (sym c.new-text.ensures)
    ∙ text_err c.args.total c.args.quote c.in-Some.c c.in_err-c.field-0.0 c.loop-c.text c.in-Some.rest whole room no
    (ap (λ (p : ℕ). character p c.in-Some.c c.in-Some.rest) (sym at) ∙ c.in_err-c.ensures.read free) in
    search (rules, fact)

pub loop-c-preserved : goal.loop-c-preserved
loop-c-preserved c =
    let whole : Result (Token × List ℕ) LexFault = text_run c.args.total (suc (length c.args.reader)) c.args.quote c.new-text.result c.args.reader in
    let room : TextRoom c.args.total c.args.quote c.loop-c.text (c.in-Some.c ∷ c.in-Some.rest) whole = subst (λ (cs : List ℕ). TextRoom c.args.total c.args.quote c.loop-c.text cs whole) c.in-Some.ensures c.loop-c.invariant.0 in
    let no : nat_eq c.in-Some.c c.args.quote ≡ false = grind (arith, nat_tests) in
    let at : c.place_of-place.result ≡ place c.args.total (c.in-Some.c ∷ c.in-Some.rest) = c.place_of-place.ensures ∙ ap (place c.args.total) c.in-Some.ensures in
    let next : TextRoom c.args.total c.args.quote (c.loop-c.text ++ c.in_ok-c.c ∷ []) c.in_ok-c.rest whole =
    text_on c.args.total c.args.quote c.in-Some.c c.in_ok-c.c c.loop-c.text c.in-Some.rest c.in_ok-c.rest whole room no
    (ap (λ (p : ℕ). character p c.in-Some.c c.in-Some.rest) (sym at) ∙ c.in_ok-c.ensures.read) c.in_ok-c.ensures.less in
    (subst (λ (t : List ℕ). TextRoom c.args.total c.args.quote t c.in_ok-c.rest whole) (sym c.in_ok-push.ensures.ok) next, omega (arith, c.in_ok-c.ensures.less, ap length c.in-Some.ensures, c.loop-c.invariant.1))

pub returns-clause-read : goal.returns-clause-read
returns-clause-read c =
    let whole : Result (Token × List ℕ) LexFault = text_run c.args.total (suc (length c.args.reader)) c.args.quote c.new-text.result c.args.reader in
    let none : c.loop-c.reader ≡ [] = search (rules, c.in_default.ensures) in
    let room : TextRoom c.args.total c.args.quote c.loop-c.text [] whole = subst (λ (cs : List ℕ). TextRoom c.args.total c.args.quote c.loop-c.text cs whole) none c.loop-c.invariant.0 in
    λ free.
    ap (λ (t : List ℕ). text_run c.args.total (suc (length c.args.reader)) c.args.quote t c.args.reader) (sym c.new-text.ensures)
    ∙ text_over c.args.total c.args.quote c.loop-c.text whole room
