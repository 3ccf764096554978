use Rattle.ng_core.specs.Frames.{state_of}
use Rattle.ng_commands.proofs.SitesRest.{on_ok}
use Rattle.ng_commands.proofs.Programs.{destroyed_acts}
use Rattle.ng_commands.proofs.running.destroy_first.Goals as goal

pub returns-clause-run : goal.returns-clause-run
returns-clause-run c =
    on_ok c.destroy.result c.destroy.ensures.run (λ h. destroyed_acts (state_of c.destroy.new.core) (state_of c.args.core.now) c.args.core.now.depth c.args.scope.0 c.requires.idle h)
