use Rattle.std.specs.Prelude.{option_map}
use Rattle.ng_act.specs.Running.{same}
use Rattle.ng_base.specs.ViewOf.{view_of}
use Rattle.ng_core.specs.Frames as cores
use Rattle.ng_fire.proofs.BoundFires.{over_rises}
use Rattle.ng_changes.proofs.Wholes.{whole_acts}
use Rattle.ng_fire.specs.Bindings.{write_run}
use Rattle.ng_parse.specs.ProgramOf.{program}
use Rattle.ng_fire.proofs.bound_fires.write_over.Goals as goal

pub returns-clause-whole : goal.returns-clause-whole
returns-clause-whole c =
    let w = c.args.works.now in
    let n = c.args.over.0 in
    let p = option_map program c.args.writes.now in
    let v = view_of c.args.own in
    whole_acts same w c.run_write.new.core c.run_write.result (write_run n p v (cores.state_of w.core)) c.requires.whole c.run_write.ensures.run (over_rises n p v (cores.state_of w.core)) c.run_write.ensures.sound c.run_write.ensures.idle c.run_write.ensures.grown
