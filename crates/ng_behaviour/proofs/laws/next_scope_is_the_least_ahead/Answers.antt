use Rattle.ng_behaviour.proofs.ScopeLaws.{next_law}
use Rattle.ng_behaviour.proofs.laws.next_scope_is_the_least_ahead.Goals as goal

pub returns : goal.returns
returns c = next_law
