use Rattle.std.proofs.Common.{ap, ◌∙◌, sym, ℕ}
use Rattle.ng_language.specs.Parsing.{parsed}
use Rattle.ng_lex.specs.TokensOf.{tokens_of}
use Rattle.ng_blocks.specs.Repeats.{parsed_program}
use Rattle.ng_blocks.proofs.ProgramSteps.{lex_kind_free, parse_kind_free, lex_refused, parse_is}
use Rattle.ng_blocks.proofs.repeating.read_program.Goals as goal

pub returns-in_default : goal.returns-in_default
returns-in_default c = λ free. lex_refused c.args.text.now c.utf8.text c.in-Err.fault (c.in-Err.ensures.exact (lex_kind_free c.in-Err.fault.kind c.in_default.not-Memory))

pub returns-in-Ok-parse : goal.returns-in-Ok-parse
returns-in-Ok-parse c =
    let ts = c.in-Ok.tokens in
    parse_is c.args.text.now c.utf8.text (tokens_of ts) c.in-Ok.ensures.exact
    ∙ ap (λ (n : ℕ). parsed_program (parsed ts.tokens.items ts.places.items n)) (sym c.in-Ok.ensures.end)
    ∙ ap parsed_program c.in-Ok-parse.ensures.exact

pub returns : goal.returns
returns c =
    let ts = c.in-Ok.tokens in
    λ free. parse_is c.args.text.now c.utf8.text (tokens_of ts) c.in-Ok.ensures.exact
    ∙ ap (λ (n : ℕ). parsed_program (parsed ts.tokens.items ts.places.items n)) (sym c.in-Ok.ensures.end)
    ∙ ap parsed_program (c.in-Err-parse.ensures.exact (parse_kind_free c.in-Err-parse.fault.kind c.in_default-kind.not-Memory))
