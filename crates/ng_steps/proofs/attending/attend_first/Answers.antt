use Rattle.std.proofs.Common.{◌∙◌, List, map}
use Rattle.ng_core.specs.Frames as cores
use Rattle.ng_steps.proofs.SetRuns.{registered_rises}
use Rattle.ng_changes.proofs.Wholes.{whole_left}
use Rattle.ng_steps.specs.Attending.{registered_on}
use Rattle.ng_parts.specs.Directing.{Hearing, Watching}
use Rattle.ng_parts.specs.ProgramsOf.{listener_of, watch_of}
use Rattle.ng_steps.proofs.attending.attend_first.Goals as goal

pub apply_changes-requires : goal.apply_changes-requires
apply_changes-requires c =
    let w = c.args.works.now in
    let ws : List Watching = map watch_of c.args.watches.items in
    let ls : List Hearing = map listener_of c.args.listeners.items in
    let n = c.args.scope.0 in
    whole_left w c.register_all.new.core (registered_on n ws ls (cores.state_of w.core)) c.requires.whole c.in_ok-register_all.ensures.run (registered_rises n ws ls (cores.state_of w.core)) c.in_ok-register_all.ensures.sound
    (c.register_all.ensures.depth ∙ c.requires.whole.idle) c.register_all.ensures.grown
