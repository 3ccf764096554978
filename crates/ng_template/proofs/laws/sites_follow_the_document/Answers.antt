use Rattle.ng_template.proofs.Compiled.{compiled_facts}
use Rattle.ng_template.proofs.laws.sites_follow_the_document.Goals as goal

pub returns : goal.returns
returns c source defs slots t e = let h = compiled_facts defs slots source t e in (h.sites, h.numbers)
