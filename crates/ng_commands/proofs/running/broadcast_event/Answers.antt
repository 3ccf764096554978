use Rattle.std.proofs.Common.{◌∙◌}
use Rattle.serde_json.specs.View.{view}
use Rattle.ng_act.specs.Asked.{a_broadcast}
use Rattle.ng_core.specs.Frames as cores
use Rattle.ng_commands.proofs.Programs.{event_acts}
use Rattle.ng_commands.proofs.running.broadcast_event.Goals as goal

pub returns-clause-run : goal.returns-clause-run
returns-clause-run c =
    let m = c.read_json.new.core in
    event_acts (a_broadcast c.args.scope.0 c.args.name.now) c.broadcast.result (cores.state_of c.broadcast.new.core) (cores.state_of m) (cores.state_of c.args.core.now) (view c.args.args.now) c.in_ok-value.value c.in_ok-values.values m.depth
    (c.read_json.ensures.depth ∙ c.requires.idle) c.in_ok-value.ensures.value c.in_ok-values.ensures.items c.broadcast.ensures.run
