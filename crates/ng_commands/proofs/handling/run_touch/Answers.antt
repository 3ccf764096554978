use Rattle.std.proofs.Common.{◌∙◌, Option, ap}
use Rattle.std.specs.Prelude.{option_map}
use Rattle.ng_build.specs.Controls.{ControlHere}
use Rattle.ng_link.specs.State as link
use Rattle.ng_build.specs.HandledOf.{control_of}
use Rattle.ng_link.specs.State.{state_of}
use Rattle.ng_commands.specs.Handling.{ready, rested, touch_run}
use Rattle.ng_commands.specs.HandlingOf.{event_seen}
use Rattle.ng_commands.proofs.SitesRest.{on_ok}
use Rattle.ng_commands.proofs.handling.run_touch.Goals as goal

pub touch_one-requires : goal.touch_one-requires
touch_one-requires c = c.ready.ensures.page c.requires

pub returns-clause-state : goal.returns-clause-state
returns-clause-state c =
    let s = state_of c.args.works.now in
    let begun = ready (event_seen c.args.event) s in
    on_ok c.rest_where_dead.result c.rest_where_dead.ensures.state
    (λ rest. rest
    ∙ ap rested
    (c.in_ok-touch_one.ensures.state
    ∙ (ap (λ (x : link.State). touch_run (option_map control_of c.in_ok-control.control) x) c.ready.ensures.state ∙ ap (λ (h : Option ControlHere). touch_run h begun) c.in_ok-control.ensures)))
