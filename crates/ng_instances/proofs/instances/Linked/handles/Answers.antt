use Rattle.std.proofs.Common.{◌∙◌}
use Rattle.ng_build.proofs.Entered.{is_entered_seen}
use Rattle.ng_instances.proofs.instances.Linked.handles.Goals as goal

pub returns : goal.returns
returns c = c.contains_key.ensures ∙ is_entered_seen c.args.n c.args.self.now.handlers.entries
