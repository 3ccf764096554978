use Rattle.ng_page.proofs.Agreeing.{bindings_agree}
use Rattle.ng_page.proofs.laws.settled_bindings_agree.Goals as goal

pub returns : goal.returns
returns c = bindings_agree
