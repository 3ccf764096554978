use Rattle.ng_link.proofs.Same.{core_stands}
use Rattle.ng_link.proofs.laws.standing_with_core.Goals as goal

pub returns : goal.returns
returns c = core_stands
