use Rattle.ng_parse.specs.ProgramOf.{program}
use Rattle.ng_view.proofs.TreeFaults.{never_no_function, never_impure}
use Rattle.ng_view.proofs.laws.faults_of_calls.Goals as goal

pub returns : goal.returns
returns c = record {
  function = never_no_function c.args.store.now c.args.scope.0 c.args.locals.now (program c.args.p.now) c.requires;
  impure = never_impure c.args.store.now c.args.scope.0 c.args.locals.now (program c.args.p.now) c.requires;
}
