use Rattle.std.proofs.Common.{sym, ◌∙◌}
use Rattle.ng_dom.proofs.Moving.{not_moved}
use Rattle.ng_dom.proofs.edits.move_name.Goals as goal

pub returns-else-take_name : goal.returns-else-take_name
returns-else-take_name c = c.take_name.ensures.names ∙ not_moved c.args.i c.args.n c.args.names.now.items (sym c.take_name.ensures.was ∙ c.if-take_name.false)
