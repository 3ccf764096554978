use Rattle.ng_events.proofs.Apart.{open-left}
use Rattle.ng_tests.proofs.listeners.quiet.Goals as goal

pub returns : goal.returns
returns c = open-left c.args.listeners.now c.drop_scope.new.self c.drop_scope.ensures.walks c.drop_scope.ensures.bare
