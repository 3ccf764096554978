use Rattle.ng_dom.proofs.Stands.{found_stand}
use Rattle.ng_dom.proofs.laws.found_stand.Goals as goal

pub returns : goal.returns
returns c = found_stand
