use Rattle.std.proofs.Common.{◌∙◌, Some, None, ap, sym}
use Rattle.std.specs.Option.{option_copied}
use Rattle.ng_instances.proofs.Noted.{bound_found}
use Rattle.ng_instances.proofs.sites.fills_in.Goals as goal

pub returns-in_ok-due-in-None : goal.returns-in_ok-due-in-None
returns-in_ok-due-in-None c = λ all. (bound_found c.args.key.now.serial.0 c.args.one.now.bounds.entries None (sym c.get.ensures.value ∙ ap option_copied c.in-None.is), c.in_ok-due-in-None.ensures all)

pub returns-in_ok-copied_bound-in-Some : goal.returns-in_ok-copied_bound-in-Some
returns-in_ok-copied_bound-in-Some c =
    λ all. bound_found c.args.key.now.serial.0 c.args.one.now.bounds.entries (Some c.in-Some.bound.now) (sym c.get.ensures.value ∙ ap option_copied c.in-Some.is)
    ∙ ap Some (sym c.in_ok-copied_bound-in-Some.ensures)
