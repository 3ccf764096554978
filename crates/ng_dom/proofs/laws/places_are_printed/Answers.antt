use Rattle.ng_dom.proofs.Standing.{places_are_printed}
use Rattle.ng_dom.proofs.laws.places_are_printed.Goals as goal

pub returns : goal.returns
returns c = places_are_printed
