use Rattle.ng_commands.proofs.Handled.{scope_there}
use Rattle.ng_page.proofs.page.Page.scope_of.Goals as goal

pub returns-clause-there : goal.returns-clause-there
returns-clause-there c = λ page unspent. scope_there c.args.self.now.engine.works c.args.n.made.0 c.scope_of.result.0 c.scope_of.ensures (page unspent)
