use Rattle.std.proofs.Common.{◌∙◌}
use Rattle.ng_app.proofs.app.App.begin.Goals as goal

pub returns-clause-directives : goal.returns-clause-directives
returns-clause-directives c = c.in_ok-keep_all.ensures.directives ∙ c.in_ok-keep_directives.ensures.programs
