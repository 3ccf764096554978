use Rattle.std.proofs.Common.{arith}
use Rattle.std.proofs.lemmas.Grind.{common_steps}
use Rattle.ng_dom.proofs.WithId.{find_steps}
use Rattle.ng_dom.proofs.finding.+found.Goals as goal

pub find_all-returns-in-Some : goal.find_all-returns-in-Some
find_all-returns-in-Some t c = grind (arith, common_steps, find_steps)

pub find_all-loop-n-preserved : goal.find_all-loop-n-preserved
find_all-loop-n-preserved t c = grind (arith, common_steps, find_steps)
