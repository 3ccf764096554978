use Rattle.ng_commands.proofs.Wholes.{probing_page}
use Rattle.ng_commands.proofs.running.probe.Goals as goal

pub returns-clause-page : goal.returns-clause-page
returns-clause-page c =
    let w = c.args.works.now in
    probing_page w (record w.core { probes = c.push.new.self }) c.requires.page
