use Rattle.std.proofs.Common.{◌∙◌, ap}
use Rattle.ng_behaviour.specs.Scopes.{live_at}
use Rattle.ng_commands.proofs.Handled.{scope_there}
use Rattle.ng_commands.proofs.handling.scope_lives.Goals as goal

pub is_live-requires : goal.is_live-requires
is_live-requires c = scope_there c.args.works.now c.args.n c.scope_of.result.0 c.scope_of.ensures c.requires

pub returns : goal.returns
returns c = c.is_live.ensures ∙ ap (live_at c.args.works.now.core.scopes) c.scope_of.ensures
