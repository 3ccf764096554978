use Rattle.ng_parse.specs.ProgramOf.{program}
use Rattle.ng_view.proofs.TreeFaults.{never_syntax}
use Rattle.ng_view.proofs.laws.faults_of_filters.Goals as goal

pub returns : goal.returns
returns c = never_syntax c.args.store.now c.args.scope.0 c.args.locals.now (program c.args.p.now) c.requires
