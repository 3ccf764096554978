use Rattle.ng_dom.proofs.Focus.{text_written}
use Rattle.ng_dom.proofs.laws.text_written.Goals as goal

pub returns : goal.returns
returns c = text_written
