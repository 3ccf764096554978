use Rattle.std.proofs.Common.{◌∙◌, ap}
use Rattle.std.specs.Prelude.{option_map}
use Rattle.ng_core.specs.Frames as cores
use Rattle.ng_act.specs.Running.{as_value_run}
use Rattle.ng_core.specs.State as act
use Rattle.ng_base.specs.ViewOf.{view_of}
use Rattle.ng_fire.proofs.Fired.{listener_rises}
use Rattle.ng_changes.proofs.Entries.{if_ok}
use Rattle.ng_changes.proofs.Runs.{value_run_state}
use Rattle.ng_changes.proofs.Wholes.{whole_run}
use Rattle.ng_changes.specs.Changes.{has_additions}
use Rattle.ng_settling.specs.ListenerRuns.{listener_run}
use Rattle.ng_link.specs.State.{listening_of}
use Rattle.ng_value.specs.Snaps.{snap_of}
use Rattle.ng_fire.proofs.firing.run_declared.Goals as goal

pub follow-requires : goal.follow-requires
follow-requires c =
    let w = c.args.works.now in
    let l = listening_of c.args.listener.now in
    let f = option_map snap_of c.args.former in
    let v = view_of c.args.value.now in
    let e = c.run_listener-end.ensures in
    whole_run w c.run_listener-end.new.core c.run_listener-end.result (listener_run l f v (cores.state_of w.core)) c.requires.whole e.run (listener_rises l f v (cores.state_of w.core)) e.sound e.idle e.grown

pub returns-clause-added : goal.returns-clause-added
returns-clause-added c =
    let w = c.args.works.now in
    let r = listener_run (listening_of c.args.listener.now) (option_map snap_of c.args.former) (view_of c.args.value.now) (cores.state_of w.core) in
    if_ok c.follow.result c.follow.ensures.added
    (λ f told. told (as_value_run r) c.run_listener-end.ensures.run ∙ ap (λ (s : act.State). has_additions s.changes) (value_run_state r))
