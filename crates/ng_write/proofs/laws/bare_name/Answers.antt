use Rattle.ng_write.proofs.Only.{only_name, local_alone, locals_alone}
use Rattle.ng_write.proofs.laws.bare_name.Goals as goal

pub returns-clause-alone : goal.returns-clause-alone
returns-clause-alone c = only_name c.args.store.now c.args.scope.0 c.args.locals.now c.args.name.now c.args.v.now

pub returns-clause-local : goal.returns-clause-local
returns-clause-local c = local_alone c.args.store.now c.args.scope.0 c.args.locals.now c.args.name.now c.args.v.now

pub returns-clause-scope : goal.returns-clause-scope
returns-clause-scope c = locals_alone c.args.locals.now c.args.name.now c.args.v.now
