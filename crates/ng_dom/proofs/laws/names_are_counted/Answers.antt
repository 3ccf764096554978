use Rattle.ng_dom.proofs.Counting.{names_stand, names_are_counted}
use Rattle.ng_dom.proofs.laws.names_are_counted.Goals as goal

pub returns-clause-stand : goal.returns-clause-stand
returns-clause-stand c = names_stand

pub returns-clause-counted : goal.returns-clause-counted
returns-clause-counted c = names_are_counted
