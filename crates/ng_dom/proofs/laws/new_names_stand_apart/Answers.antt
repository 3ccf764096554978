use Rattle.ng_dom.proofs.Fresh.{new_names_stand_apart}
use Rattle.ng_dom.proofs.laws.new_names_stand_apart.Goals as goal

pub returns : goal.returns
returns c = new_names_stand_apart
