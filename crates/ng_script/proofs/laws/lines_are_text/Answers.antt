use Rattle.ng_script.proofs.LineLaws.{lines_spelled, lines_only}
use Rattle.ng_script.proofs.laws.lines_are_text.Goals as goal

pub returns-clause-spelled : goal.returns-clause-spelled
returns-clause-spelled c = lines_spelled

pub returns-clause-only : goal.returns-clause-only
returns-clause-only c = lines_only
