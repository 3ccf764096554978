use Rattle.ng_core.specs.Frames as cores
use Rattle.ng_parse.specs.ProgramOf.{program}
use Rattle.ng_changes.proofs.Runs.{program_rises}
use Rattle.ng_changes.proofs.Wholes.{whole_ran}
use Rattle.ng_changes.specs.Runs.{program_run}
use Rattle.ng_settling.proofs.inputs.run_one.Goals as goal

pub follow-requires : goal.follow-requires
follow-requires c =
    let w = c.args.works.now in
    let s = cores.state_of w.core in
    let p = program c.args.p.now in
    let e = c.run_program-end.ensures in
    whole_ran w c.run_program-end.new.core c.run_program-end.result (program_run c.args.scope.0 p s) c.requires.whole e.run (program_rises c.args.scope.0 p s) e.sound e.idle e.grown
