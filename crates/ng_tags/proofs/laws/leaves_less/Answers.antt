use Rattle.ng_tags.proofs.EventLess.{lexed_less}
use Rattle.ng_tags.proofs.laws.leaves_less.Goals as goal

pub returns : goal.returns
returns c = lexed_less
