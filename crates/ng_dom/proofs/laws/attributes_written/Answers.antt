use Rattle.ng_dom.proofs.Focus.{attributes_written}
use Rattle.ng_dom.proofs.laws.attributes_written.Goals as goal

pub returns : goal.returns
returns c = attributes_written
