use Rattle.std.proofs.Common.{rules, ◌≡◌, ◌∷◌, ◌++◌, [], List, ℕ, suc, length, ap, ◌∙◌, sym, subst}
use Rattle.std.specs.Prelude.{false, Err, Result}
use Rattle.ng_base.specs.Cells.{place}
use Rattle.ng_language.specs.Letters.{is_space}
use Rattle.ng_language.specs.Lexing.{token_at, lexes, lexed, is_free}
use Rattle.ng_language.specs.declared.syntax.LexFault.{LexFault}
use Rattle.ng_language.specs.declared.syntax.Token.{Token}
use Rattle.ng_lex.proofs.Rooms.{LexRoom, token_on, token_err}
use Rattle.ng_lex.proofs.lexing.read_tokens.Goals as goal

pub returns-in_err-token-clause-exact : goal.returns-in_err-token-clause-exact
returns-in_err-token-clause-exact c =
    let total = length c.args.text.now in
    let whole : Result (List Token × List ℕ) LexFault = lexes total (suc (length c.new-reader.result)) c.args.tokens.items c.args.places.items c.new-reader.result in
    let room : LexRoom total c.loop-c.tokens.items c.loop-c.places.items (c.in-Some.c ∷ c.in-Some.rest) whole = subst (λ (cs : List ℕ). LexRoom total c.loop-c.tokens.items c.loop-c.places.items cs whole) c.in-Some.ensures c.loop-c.invariant in
    let no : is_space c.in-Some.c ≡ false = sym c.if-space.ensures in
    let at : c.place_of-place.result ≡ place total (c.in-Some.c ∷ c.in-Some.rest) = c.place_of-place.ensures ∙ ap (place total) c.in-Some.ensures in
    let fact : is_free c.in_err-token.field-0.0 ≡ false → whole ≡ Err c.in_err-token.field-0.0 =
    λ free. token_err total c.loop-c.tokens.items c.loop-c.places.items c.in-Some.c c.in-Some.rest c.in_err-token.field-0.0 whole room no
    (ap (λ (p : ℕ). token_at total p c.in-Some.c c.in-Some.rest) (sym at) ∙ c.in_err-token.ensures.read free) in
    let same : whole ≡ lexed total c.new-reader.result = rw (c.requires.tokens, c.requires.places) in
    rw (← c.new-reader.ensures) (search (rules, λ (free : is_free c.in_err-token.field-0.0 ≡ false). sym same ∙ fact free))

pub loop-c-preserved : goal.loop-c-preserved
loop-c-preserved c =
    let total = length c.args.text.now in
    let whole : Result (List Token × List ℕ) LexFault = lexes total (suc (length c.new-reader.result)) c.args.tokens.items c.args.places.items c.new-reader.result in
    let room : LexRoom total c.loop-c.tokens.items c.loop-c.places.items (c.in-Some.c ∷ c.in-Some.rest) whole = subst (λ (cs : List ℕ). LexRoom total c.loop-c.tokens.items c.loop-c.places.items cs whole) c.in-Some.ensures c.loop-c.invariant in
    let no : is_space c.in-Some.c ≡ false = sym c.if-space.ensures in
    let at : c.place_of-place.result ≡ place total (c.in-Some.c ∷ c.in-Some.rest) = c.place_of-place.ensures ∙ ap (place total) c.in-Some.ensures in
    let next : LexRoom total (c.loop-c.tokens.items ++ c.in_ok-token.token ∷ []) (c.loop-c.places.items ++ place total (c.in-Some.c ∷ c.in-Some.rest) ∷ []) c.in_ok-token.rest whole =
    token_on total c.loop-c.tokens.items c.loop-c.places.items c.in-Some.c c.in-Some.rest c.in_ok-token.rest c.in_ok-token.token whole room no
    (ap (λ (p : ℕ). token_at total p c.in-Some.c c.in-Some.rest) (sym at) ∙ c.in_ok-token.ensures.read) c.in_ok-token.ensures.less in
    rw (c.in_ok-push.ensures.items, c.in_ok-push-2.ensures.items, at) next
