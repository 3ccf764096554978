use Rattle.ng_laws.proofs.Agreeing.{both_sides_agree}
use Rattle.ng_laws.proofs.bindings.both_sides_of_a_binding_agree.Goals as goal

pub returns : goal.returns
returns c = both_sides_agree
