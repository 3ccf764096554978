use Rattle.ng_template.proofs.Compiled.{compiled_facts}
use Rattle.ng_template.proofs.laws.compiles_what_is_not_refused.Goals as goal

pub returns : goal.returns
returns c source defs slots t e = let h = compiled_facts defs slots source t e in h.none
