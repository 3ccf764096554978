use Rattle.std.proofs.Common.{arith}
use Rattle.std.proofs.lemmas.Grind.{common_steps}
use Rattle.ng_html.proofs.Prints.{print_steps}
use Rattle.ng_html.proofs.writing.push_attributes.Goals as goal

pub loop-a-preserved : goal.loop-a-preserved
loop-a-preserved c = grind (arith, common_steps, print_steps)
