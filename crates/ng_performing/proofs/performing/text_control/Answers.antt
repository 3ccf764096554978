use Rattle.std.proofs.Common.{◌∙◌}
use Rattle.ng_performing.specs.Aims.{takes_text}
use Rattle.ng_performing.proofs.Aimed.{control_nowhere, control_found}
use Rattle.ng_performing.proofs.performing.text_control.Goals as goal

pub returns-in-None-clause-found : goal.returns-in-None-clause-found
returns-in-None-clause-found c = control_nowhere c.args.page.now c.requires c.args.target.now takes_text c.in-None.ensures.found

pub returns-in-Some-clause-found : goal.returns-in-Some-clause-found
returns-in-Some-clause-found c = c.text_at.ensures.found ∙ control_found c.args.page.now c.requires c.args.target.now takes_text c.in-Some.node c.in-Some.ensures.found
