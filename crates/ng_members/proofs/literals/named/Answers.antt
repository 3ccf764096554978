use Rattle.std.proofs.Common.{◌∙◌, sym, ap, length, rules}
use Rattle.std.specs.Prelude.{option_copied}
use Rattle.ng_base.specs.Objects.{StandsAmong}
use Rattle.ng_members.proofs.Stand.{local_stands}
use Rattle.ng_members.proofs.literals.named.Goals as goal

pub returns-in-Some-clause-stands : goal.returns-in-Some-clause-stands
returns-in-Some-clause-stands c =
    let n = length c.args.store.now in
    let s : StandsAmong n c.in-Some.v.now = local_stands n c.args.locals.now c.args.name.now c.in-Some.v.now (sym c.local.ensures ∙ ap option_copied c.in-Some.is) c.requires.locals in
    search rules
