use Rattle.ng_commands.proofs.Wholes.{untroubled_page}
use Rattle.ng_commands.proofs.handling.ready.Goals as goal

pub returns-in-Awaited-clause-page : goal.returns-in-Awaited-clause-page
returns-in-Awaited-clause-page c =
    untroubled_page c.args.works.now c.forget_faults.new.self c.forget_faults.ensures.state c.forget_faults.ensures.core c.forget_faults.ensures.sound c.forget_faults.ensures.stands c.forget_faults.ensures.templates

pub returns-in-Made-clause-page : goal.returns-in-Made-clause-page
returns-in-Made-clause-page c = untroubled_page c.args.works.now c.forget_faults-in-Made.new.self c.forget_faults-in-Made.ensures.state c.forget_faults-in-Made.ensures.core c.forget_faults-in-Made.ensures.sound c.forget_faults-in-Made.ensures.stands c.forget_faults-in-Made.ensures.templates
