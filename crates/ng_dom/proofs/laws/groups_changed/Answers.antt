use Rattle.ng_dom.proofs.Focus.{groups_changed}
use Rattle.ng_dom.proofs.laws.groups_changed.Goals as goal

pub returns : goal.returns
returns c = groups_changed
