use Rattle.serde_json.specs.View.{view}
use Rattle.ng_core.specs.Frames as cores
use Rattle.ng_commands.specs.Commands.{emits, emit_run}
use Rattle.ng_commands.proofs.Ran.{whole_ran, page_asked}
use Rattle.ng_commands.proofs.StepsStay.{emit_stays}
use Rattle.ng_commands.proofs.running.emit_from.Goals as goal

pub follow-requires : goal.follow-requires
follow-requires c =
    let w = c.args.works.now in
    let s = cores.state_of w.core in
    let d = view c.args.args.now in
    whole_ran w c.emit_event-end.new.core c.emit_event-end.result (emit_run c.args.scope.0 c.args.name.now d s) c.emit_event-end.ensures.run (emit_stays c.args.scope.0 c.args.name.now d s)
    c.emit_event-end.ensures.sound c.emit_event-end.ensures.idle c.emit_event-end.ensures.count c.emit_event-end.ensures.grown c.requires.page.works.whole

pub returns-clause-page : goal.returns-clause-page
returns-clause-page c =
    let w = c.args.works.now in
    let d = view c.args.args.now in
    page_asked (emits c.args.scope.0 c.args.name.now d) w c.follow.new.works (c.in_ok-follow.ensures.state (emit_run c.args.scope.0 c.args.name.now d (cores.state_of w.core)) c.emit_event-end.ensures.run).0
    c.in_ok-follow.ensures.whole c.follow.ensures.templates c.requires.page
