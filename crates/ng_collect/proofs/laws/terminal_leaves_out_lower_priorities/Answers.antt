use Rattle.ng_collect.proofs.Reach.{cut_is_all}
use Rattle.ng_collect.proofs.laws.terminal_leaves_out_lower_priorities.Goals as goal

pub returns : goal.returns
returns g c = cut_is_all g.picks.0 g.picks.1
