use Rattle.ng_dom.proofs.Once.{one_reading}
use Rattle.ng_dom.proofs.laws.one_reading.Goals as goal

pub returns : goal.returns
returns c = one_reading
