use Rattle.std.proofs.Common.{◌∙◌}
use Rattle.serde_json.specs.View.{view}
use Rattle.ng_act.specs.Asked.{an_emit}
use Rattle.ng_core.specs.Frames as cores
use Rattle.ng_commands.proofs.Programs.{event_acts}
use Rattle.ng_commands.proofs.running.emit_event.Goals as goal

pub returns-clause-run : goal.returns-clause-run
returns-clause-run c =
    let m = c.read_json.new.core in
    event_acts (an_emit c.args.scope.0 c.args.name.now) c.emit.result (cores.state_of c.emit.new.core) (cores.state_of m) (cores.state_of c.args.core.now) (view c.args.args.now) c.in_ok-value.value c.in_ok-values.values m.depth
    (c.read_json.ensures.depth ∙ c.requires.idle) c.in_ok-value.ensures.value c.in_ok-values.ensures.items c.emit.ensures.run
