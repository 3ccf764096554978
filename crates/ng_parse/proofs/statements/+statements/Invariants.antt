use Rattle.std.proofs.Common.{length}
use Rattle.ng_parse.proofs.statements.+statements.Given as goal

abbrev pub decreases-read_statements : goal.decreases-read_statements
decreases-read_statements l = length l.tokens.now

abbrev pub decreases-read_separated : goal.decreases-read_separated
decreases-read_separated l = length l.tokens.now
