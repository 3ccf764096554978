use Rattle.std.proofs.Common.{arith}
use Rattle.std.proofs.lemmas.Grind.{common_steps}
use Rattle.ng_dom.proofs.Telling.{tell_steps}
use Rattle.ng_dom.proofs.printing.+told.Goals as goal

pub add_all-loop-n-preserved : goal.add_all-loop-n-preserved
add_all-loop-n-preserved t c = grind (arith, common_steps, tell_steps)

pub add_all-returns : goal.add_all-returns
add_all-returns t c = grind (arith, common_steps, tell_steps)

pub add_groups-loop-group-preserved : goal.add_groups-loop-group-preserved
add_groups-loop-group-preserved t c = grind (arith, common_steps, tell_steps)

pub add_groups-returns : goal.add_groups-returns
add_groups-returns t c = grind (arith, common_steps, tell_steps)
