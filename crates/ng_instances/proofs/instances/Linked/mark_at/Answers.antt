use Rattle.std.proofs.Common.{ap, sym, ◌∙◌, None, Some}
use Rattle.std.specs.Option.{option_copied}
use Rattle.ng_instances.proofs.Noted.{mark_found}
use Rattle.ng_instances.proofs.instances.Linked.mark_at.Goals as goal

pub returns-in-None : goal.returns-in-None
returns-in-None c = sym (mark_found c.args.serial c.args.self.now.marks.entries None (sym c.get.ensures.value ∙ ap option_copied c.in-None.is))

pub returns-in-Some : goal.returns-in-Some
returns-in-Some c = sym (mark_found c.args.serial c.args.self.now.marks.entries (Some c.in-Some.mark.now) (sym c.get.ensures.value ∙ ap option_copied c.in-Some.is))
