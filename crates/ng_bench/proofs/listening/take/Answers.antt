use Rattle.ng_events.proofs.Apart.{open-left}
use Rattle.ng_bench.proofs.listening.take.Goals as goal

pub returns : goal.returns
returns c = open-left c.args.listeners.now c.off.new.self c.off.ensures.walks c.off.ensures.bare
