use Rattle.ng_template.proofs.Compiled.{compiled_refusal}
use Rattle.ng_template.proofs.laws.first_refusal_stands.Goals as goal

pub returns : goal.returns
returns c source defs slots f e = compiled_refusal defs slots source f e
