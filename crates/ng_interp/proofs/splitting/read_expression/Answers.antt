use Rattle.std.proofs.Common.{ap, sym, ◌∙◌, Err, Ok}
use Rattle.ng_lex.specs.TokensOf.{tokens_of}
use Rattle.ng_parse.specs.ProgramOf.{program}
use Rattle.ng_interp.proofs.PartLaws.{lex_free, parse_free, lex_is, parse_is}
use Rattle.ng_interp.proofs.splitting.read_expression.Goals as goal

pub returns-in-Err : goal.returns-in-Err
returns-in-Err c =
    λ free. lex_is c.args.place c.args.text.now c.utf8.text (Err c.in-Err.fault) (c.in-Err.ensures.exact (lex_free c.args.place c.in-Err.fault c.of_lexer.result c.of_lexer.ensures free))
    ∙ ap Err (sym c.of_lexer.ensures)

pub returns-in-Err-parse : goal.returns-in-Err-parse
returns-in-Err-parse c =
    λ free. parse_is c.args.place c.args.text.now c.utf8.text (tokens_of c.lex_into.new.tokens) c.lex_into.new.tokens.end (Err c.in-Err-parse.fault) c.in-Ok.ensures.exact c.in-Ok.ensures.end
    (c.in-Err-parse.ensures.exact (parse_free c.args.place c.in-Err-parse.fault c.of_parser.result c.of_parser.ensures free))
    ∙ ap Err (sym c.of_parser.ensures)

pub returns-in-Ok-parse : goal.returns-in-Ok-parse
returns-in-Ok-parse c = parse_is c.args.place c.args.text.now c.utf8.text (tokens_of c.lex_into.new.tokens) c.lex_into.new.tokens.end (Ok (program c.in-Ok-parse.program)) c.in-Ok.ensures.exact c.in-Ok.ensures.end c.in-Ok-parse.ensures.exact
