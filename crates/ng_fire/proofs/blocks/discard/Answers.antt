use Rattle.std.proofs.Common.{◌∙◌}
use Rattle.ng_core.specs.Burying.{buried}
use Rattle.ng_core.specs.Frames as cores
use Rattle.ng_changes.proofs.Rising.{buried-rises}
use Rattle.ng_changes.proofs.Wholes.{whole_left}
use Rattle.ng_fire.proofs.blocks.discard.Goals as goal

pub apply_changes-requires : goal.apply_changes-requires
apply_changes-requires c =
    let w = c.args.works.now in
    let s = cores.state_of w.core in
    whole_left w c.bury.new.core (buried c.args.scope.0 s) c.requires.whole c.in_ok-bury.ensures.run (buried-rises c.args.scope.0 s) c.bury.ensures.sound (c.bury.ensures.depth ∙ c.requires.whole.idle) c.bury.ensures.grown
