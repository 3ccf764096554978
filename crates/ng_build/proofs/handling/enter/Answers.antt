use Rattle.std.proofs.Common.{ap, sym, ◌∙◌}
use Rattle.ng_build.specs.HandledOf.{handled_of}
use Rattle.ng_build.proofs.Entered.{entered_in}
use Rattle.ng_build.proofs.handling.enter.Goals as goal

pub returns : goal.returns
returns c =
    ap handled_of c.in_ok-insert.ensures.entries
    ∙ entered_in c.args.n c.args.handlers.now c.in_ok-copy.copy c.args.table.now.entries (sym c.is_empty.ensures ∙ c.if-is_empty.false) c.in_ok-copy.ensures
