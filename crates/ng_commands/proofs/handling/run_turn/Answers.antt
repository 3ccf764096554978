use Rattle.std.proofs.Common.{◌≡◌, ◌≤◌, ◌∙◌, length, ap, sym, subst}
use Rattle.ng_core.specs.Frames as cores
use Rattle.ng_act.specs.Running.{same}
use Rattle.ng_core.specs.State.{Run}
use Rattle.ng_base.specs.declared.value.Value.{Value}
use Rattle.ng_changes.specs.Runs.{followed}
use Rattle.ng_link.specs.State.{state_of}
use Rattle.ng_parse.specs.ProgramOf.{program}
use Rattle.ng_commands.specs.Handling.{event_after, event_of, handling_run}
use Rattle.ng_commands.specs.HandlingOf.{event_seen, happening_seen}
use Rattle.ng_commands.proofs.SitesRest.{on_ok}
use Rattle.ng_commands.proofs.Ran.{whole_ran, page_left, acts_left}
use Rattle.ng_commands.proofs.Handled.{scope_there, handling_stays, handling_sites, was_no_want, below_still, followed_grown, rested_grown, turned}
use Rattle.ng_commands.proofs.handling.run_turn.Goals as goal

pub handling-end-requires-clause-scope : goal.handling-end-requires-clause-scope
handling-end-requires-clause-scope c = scope_there c.ready.new.works c.args.n c.scope_of-scope.result.0 c.scope_of-scope.ensures (c.ready.ensures.page c.requires.page)

pub follow-requires : goal.follow-requires
follow-requires c =
    let w = c.ready.new.works in
    let x = happening_seen c.args.happening in
    let e = event_seen c.args.event.now in
    let s = cores.state_of w.core in
    let p = program c.args.p.now in
    whole_ran w c.handling-end.new.core c.handling-end.result (handling_run x e c.scope_of-scope.result.0 p s) c.handling-end.ensures.run (handling_stays x e c.scope_of-scope.result.0 p s)
    c.handling-end.ensures.sound c.handling-end.ensures.idle c.handling-end.ensures.count c.handling-end.ensures.grown (c.ready.ensures.page c.requires.page).works.whole

pub rest_where_dead-requires : goal.rest_where_dead-requires
rest_where_dead-requires c =
    let w = c.ready.new.works in
    let x = happening_seen c.args.happening in
    let e = event_seen c.args.event.now in
    let p = program c.args.p.now in
    let run : Run Value = handling_run x e c.scope_of-scope.result.0 p (cores.state_of w.core) in
    page_left w c.follow.new.works (followed run (state_of w)) (c.in_ok-follow.ensures.state run c.handling-end.ensures.run).0 (handling_sites x e c.scope_of-scope.result.0 p (state_of w))
    c.in_ok-follow.ensures.whole c.follow.ensures.templates (c.ready.ensures.page c.requires.page)

pub returns-clause-state : goal.returns-clause-state
returns-clause-state c =
    let w = c.ready.new.works in
    let x = happening_seen c.args.happening in
    let e = event_seen c.args.event.now in
    let p = program c.args.p.now in
    let scope = c.scope_of-scope.result.0 in
    let run : Run Value = handling_run x e scope p (cores.state_of w.core) in
    on_ok c.rest_where_dead.result c.rest_where_dead.ensures.state
    (λ state. turned x e c.args.n scope p (state_of c.args.works.now) (state_of w) (state_of c.follow.new.works) (state_of c.rest_where_dead.new.works) c.ready.ensures.state c.scope_of-scope.ensures (c.in_ok-follow.ensures.state run c.handling-end.ensures.run).0 state)

pub returns-clause-event : goal.returns-clause-event
returns-clause-event c =
    let w = c.ready.new.works in
    let x = happening_seen c.args.happening in
    let e = event_seen c.args.event.now in
    on_ok c.rest_where_dead.result c.rest_where_dead.ensures.state
    (λ _. was_no_want c.handling-end.result (cores.state_of c.handling-end.new.core) c.in_ok-follow.field-0.faulted (λ r. state_of c.follow.new.works ≡ followed r (state_of w)) c.in_ok-follow.ensures.state
    (event_seen c.handling-end.new.event ≡ event_after (event_of x e (cores.state_of w.core)).1) c.handling-end.ensures.event
    ∙ ap (λ s. event_after (event_of x e s.core).1) c.ready.ensures.state)

pub returns-clause-below : goal.returns-clause-below
returns-clause-below c =
    let w = c.ready.new.works in
    let d = c.handling-end.new.core in
    let x = happening_seen c.args.happening in
    let e = event_seen c.args.event.now in
    let p = program c.args.p.now in
    let run : Run Value = handling_run x e c.scope_of-scope.result.0 p (cores.state_of w.core) in
    let state = (c.in_ok-follow.ensures.state run c.handling-end.ensures.run).0 in
    let left : run.0 ≡ cores.state_of d =
    was_no_want c.handling-end.result (cores.state_of d) c.in_ok-follow.field-0.faulted (λ r. state_of c.follow.new.works ≡ followed r (state_of w)) c.in_ok-follow.ensures.state
    (run.0 ≡ cores.state_of d) (acts_left same c.handling-end.result (cores.state_of d) run c.handling-end.ensures.run) in
    let grown : length d.store ≤ length c.follow.new.works.core.store = subst (λ s. length d.store ≤ length s.core.objects) (sym state) (followed_grown run (cores.state_of d) (state_of w) left) in
    on_ok c.rest_where_dead.result c.rest_where_dead.ensures.state
    (λ rest. below_still (length d.store) (length c.rest_where_dead.new.works.core.store) c.handling-end.new.event
    (rested_grown (length d.store) (state_of c.follow.new.works) (state_of c.rest_where_dead.new.works) rest grown) c.handling-end.ensures.below)
