use Rattle.std.proofs.Common.{length}
use Rattle.ng_act.proofs.running.act_body.Goals as goal

pub returns-clause-stands : goal.returns-clause-stands
returns-clause-stands c = c.answered.ensures.stands (length c.run_body-end.new.core.store) c.run_body-end.ensures.stands
