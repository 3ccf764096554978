use Rattle.std.proofs.Common.{None}
use Rattle.ng_commands.proofs.Wholes.{begun_page}
use Rattle.ng_commands.proofs.running.begin.Goals as goal

pub returns-clause-page : goal.returns-clause-page
returns-clause-page c = begun_page c.args.works.now (record { count = 0; first = None })
