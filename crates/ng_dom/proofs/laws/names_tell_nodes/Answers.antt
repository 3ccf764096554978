use Rattle.ng_dom.proofs.Apart.{names_are_live, names_are_gone, groups_stand_apart}
use Rattle.ng_dom.proofs.laws.names_tell_nodes.Goals as goal

pub returns-clause-live : goal.returns-clause-live
returns-clause-live c = names_are_live

pub returns-clause-gone : goal.returns-clause-gone
returns-clause-gone c = names_are_gone

pub returns-clause-groups : goal.returns-clause-groups
returns-clause-groups c = groups_stand_apart
