use Rattle.std.proofs.Common.{length}
use Rattle.std.specs.Str.{chars}
use Rattle.ng_lex.proofs.Laws.{found, only}
use Rattle.ng_lex.proofs.lexing.lex.Goals as goal

pub returns-clause-found : goal.returns-clause-found
returns-clause-found c = found (length c.args.text.now) (chars c.args.text.now) c.read_tokens.result c.read_tokens.ensures.exact

pub returns-clause-only : goal.returns-clause-only
returns-clause-only c = λ ts ps h. only (length c.args.text.now) (chars c.args.text.now) ts ps c.read_tokens.result c.read_tokens.ensures.exact h
