use Rattle.ng_refusals.proofs.Refused.{unexpected, not_assignable, ended}
use Rattle.ng_refusals.proofs.laws.refusal_stands_at_the_first_unfit_token.Goals as goal

pub returns-clause-unexpected : goal.returns-clause-unexpected
returns-clause-unexpected c = unexpected

pub returns-clause-not_assignable : goal.returns-clause-not_assignable
returns-clause-not_assignable c = not_assignable

pub returns-clause-ended : goal.returns-clause-ended
returns-clause-ended c = ended
