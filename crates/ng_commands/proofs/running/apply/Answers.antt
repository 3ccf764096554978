use Rattle.ng_core.specs.Frames as cores
use Rattle.ng_parse.specs.ProgramOf.{program}
use Rattle.ng_commands.specs.Commands.{applies}
use Rattle.ng_commands.proofs.Ran.{whole_ran, page_asked}
use Rattle.ng_commands.proofs.StepsStay.{program_stays}
use Rattle.ng_commands.proofs.running.apply.Goals as goal
use Rattle.ng_changes.specs.Runs.{program_run}

pub follow-requires : goal.follow-requires
follow-requires c =
    let w = c.args.works.now in
    let s = cores.state_of w.core in
    let p = program c.args.p.now in
    whole_ran w c.run_program-end.new.core c.run_program-end.result (program_run c.args.scope.0 p s) c.run_program-end.ensures.run (program_stays c.args.scope.0 p s)
    c.run_program-end.ensures.sound c.run_program-end.ensures.idle c.run_program-end.ensures.count c.run_program-end.ensures.grown c.requires.page.works.whole

pub returns-clause-page : goal.returns-clause-page
returns-clause-page c =
    let w = c.args.works.now in
    let p = program c.args.p.now in
    page_asked (applies c.args.scope.0 p) w c.follow.new.works (c.in_ok-follow.ensures.state (program_run c.args.scope.0 p (cores.state_of w.core)) c.run_program-end.ensures.run).0
    c.in_ok-follow.ensures.whole c.follow.ensures.templates c.requires.page
