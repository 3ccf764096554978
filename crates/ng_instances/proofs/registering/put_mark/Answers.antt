use Rattle.std.proofs.Common.{ap, ◌∙◌}
use Rattle.ng_instances.specs.MarksOf.{marks_of}
use Rattle.ng_instances.proofs.Noted.{mark_noted}
use Rattle.ng_instances.proofs.registering.put_mark.Goals as goal

pub returns : goal.returns
returns c = ap marks_of c.in_ok-insert.ensures.entries ∙ mark_noted c.args.serial c.args.mark c.args.marks.now.entries
