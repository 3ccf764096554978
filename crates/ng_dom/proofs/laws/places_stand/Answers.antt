use Rattle.ng_dom.proofs.Stands.{places_stand}
use Rattle.ng_dom.proofs.laws.places_stand.Goals as goal

pub returns : goal.returns
returns c = places_stand
