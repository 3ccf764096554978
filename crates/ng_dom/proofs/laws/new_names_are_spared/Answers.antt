use Rattle.ng_dom.proofs.Fresh.{new_names_are_spared}
use Rattle.ng_dom.proofs.laws.new_names_are_spared.Goals as goal

pub returns : goal.returns
returns c = new_names_are_spared
