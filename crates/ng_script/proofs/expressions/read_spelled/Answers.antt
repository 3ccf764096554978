use Rattle.std.proofs.Common.{◌≡◌, ◌∙◌, ap, sym, length, ℕ, encode_utf8_all}
use Rattle.std.specs.Prelude.{Err, Result}
use Rattle.std.proofs.lemmas.Str.{encodes-chars}
use Rattle.std.specs.Str.{chars}
use Rattle.ng_language.specs.Trees.{Trees}
use Rattle.ng_language.specs.Parsing.{parsed}
use Rattle.ng_script.specs.Expressions.{program_or}
use Rattle.ng_script.specs.declared.fault.ScriptKind.{ScriptKind}
use Rattle.ng_script.proofs.Programs.{lex_refused, parse_refused, no_tokens, of_tokens}
use Rattle.ng_script.proofs.expressions.read_spelled.Goals as goal

pub returns-in-Err : goal.returns-in-Err
returns-in-Err c = λ h.
    let n : length (encode_utf8_all (chars c.args.text.now)) ≡ length c.args.text.now = ap length (encodes-chars c.args.text.now c.utf8.text) in
    let r = lex_refused c.from_lexer.result c.in-Err.fault c.from_lexer.ensures h in
    no_tokens (length c.args.text.now) (chars c.args.text.now) c.in-Err.fault n (c.in-Err.ensures.exact r.0)
    ∙ ap (λ (k : ScriptKind). let e : Result Trees ScriptKind = Err k in e) (sym r.1)

pub returns-in-Ok-parse : goal.returns-in-Ok-parse
returns-in-Ok-parse c =
    let n : length (encode_utf8_all (chars c.args.text.now)) ≡ length c.args.text.now = ap length (encodes-chars c.args.text.now c.utf8.text) in
    let ts = c.in-Ok.tokens.tokens.items in
    let ps = c.in-Ok.tokens.places.items in
    of_tokens (length c.args.text.now) (chars c.args.text.now) ts ps n c.in-Ok.ensures.exact
    ∙ (ap (λ (m : ℕ). program_or (parsed ts ps m)) (sym c.in-Ok.ensures.end) ∙ ap program_or c.in-Ok-parse.ensures.exact)

pub returns : goal.returns
returns c = λ h.
    let n : length (encode_utf8_all (chars c.args.text.now)) ≡ length c.args.text.now = ap length (encodes-chars c.args.text.now c.utf8.text) in
    let ts = c.in-Ok.tokens.tokens.items in
    let ps = c.in-Ok.tokens.places.items in
    let r = parse_refused c.from_parser.result c.in-Err-parse.fault c.from_parser.ensures h in
    of_tokens (length c.args.text.now) (chars c.args.text.now) ts ps n c.in-Ok.ensures.exact
    ∙ (ap (λ (m : ℕ). program_or (parsed ts ps m)) (sym c.in-Ok.ensures.end) ∙ (ap program_or (c.in-Err-parse.ensures.exact r.0)
    ∙ ap (λ (k : ScriptKind). let e : Result Trees ScriptKind = Err k in e) (sym r.1)))
