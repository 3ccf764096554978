use Rattle.ng_dom.proofs.Focus.{nothing_written}
use Rattle.ng_dom.proofs.laws.nothing_written.Goals as goal

pub returns : goal.returns
returns c = nothing_written
