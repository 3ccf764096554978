use Rattle.serde_json.specs.View.{view}
use Rattle.ng_core.specs.Frames as cores
use Rattle.ng_commands.specs.Commands.{broadcasts, broadcast_run}
use Rattle.ng_commands.proofs.Ran.{whole_ran, page_asked}
use Rattle.ng_commands.proofs.StepsStay.{broadcast_stays}
use Rattle.ng_commands.proofs.running.broadcast_from.Goals as goal

pub follow-requires : goal.follow-requires
follow-requires c =
    let w = c.args.works.now in
    let s = cores.state_of w.core in
    let d = view c.args.args.now in
    whole_ran w c.broadcast_event-end.new.core c.broadcast_event-end.result (broadcast_run c.args.scope.0 c.args.name.now d s) c.broadcast_event-end.ensures.run (broadcast_stays c.args.scope.0 c.args.name.now d s)
    c.broadcast_event-end.ensures.sound c.broadcast_event-end.ensures.idle c.broadcast_event-end.ensures.count c.broadcast_event-end.ensures.grown c.requires.page.works.whole

pub returns-clause-page : goal.returns-clause-page
returns-clause-page c =
    let w = c.args.works.now in
    let d = view c.args.args.now in
    page_asked (broadcasts c.args.scope.0 c.args.name.now d) w c.follow.new.works (c.in_ok-follow.ensures.state (broadcast_run c.args.scope.0 c.args.name.now d (cores.state_of w.core)) c.broadcast_event-end.ensures.run).0
    c.in_ok-follow.ensures.whole c.follow.ensures.templates c.requires.page
