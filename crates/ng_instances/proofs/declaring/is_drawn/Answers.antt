use Rattle.std.proofs.Common.{ap, sym, ◌∙◌}
use Rattle.std.specs.Option.{option_copied}
use Rattle.ng_instances.proofs.Forgetting.{drawn_none, drawn_some}
use Rattle.ng_instances.proofs.declaring.is_drawn.Goals as goal

pub returns-in-None : goal.returns-in-None
returns-in-None c = λ all. sym (drawn_none all c.args.inner.now.entries c.args.instances.now.entries c.args.key.now (sym c.instance_of.ensures ∙ ap option_copied c.in-None.is))

pub returns-in-Some : goal.returns-in-Some
returns-in-Some c = λ all.
    c.draws.ensures ∙ sym (drawn_some all c.args.inner.now.entries c.args.instances.now.entries c.args.key.now c.in-Some.one.now (sym c.instance_of.ensures ∙ ap option_copied c.in-Some.is))
