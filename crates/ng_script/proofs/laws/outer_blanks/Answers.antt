use Rattle.ng_script.proofs.Trimmed.{trimmed_inner}
use Rattle.ng_script.proofs.laws.outer_blanks.Goals as goal

pub returns : goal.returns
returns c = trimmed_inner
