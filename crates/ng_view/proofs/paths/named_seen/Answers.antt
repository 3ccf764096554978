use Rattle.std.proofs.Common.{◌∙◌, sym, ap, length}
use Rattle.std.specs.Prelude.{option_copied}
use Rattle.ng_members.proofs.Stand.{local_stands}
use Rattle.ng_view.proofs.paths.named_seen.Goals as goal

pub returns-in-Some-clause-stands : goal.returns-in-Some-clause-stands
returns-in-Some-clause-stands c =
    local_stands (length c.args.store.now) c.args.locals.now c.args.name.now c.in-Some.v.now (sym c.local.ensures ∙ ap option_copied c.in-Some.is) c.requires.locals
