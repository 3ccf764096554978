use Rattle.std.proofs.Common.{length}
use Rattle.ng_act.proofs.running.act.Goals as goal

pub returns-clause-stands : goal.returns-clause-stands
returns-clause-stands c = c.answered.ensures.stands (length c.exchange-2.new.core.store) (rw c.exchange-2.ensures.store c.programmed-end.ensures.stands)
