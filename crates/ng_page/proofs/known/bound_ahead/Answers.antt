use Rattle.std.proofs.Common.{◌≡◌, ◌∙◌, Option, true, subst, sym}
use Rattle.std.specs.Option.{option_copied}
use Rattle.ng_base.specs.declared.path.Key.{Key}
use Rattle.ng_digest.specs.Machine.{above}
use Rattle.ng_page.specs.PageMachine.{page_machine}
use Rattle.ng_page.proofs.Nearest.{over_bound}
use Rattle.ng_page.proofs.known.bound_ahead.Goals as goal

pub returns-else-is_ahead-clause-behind : goal.returns-else-is_ahead-clause-behind
returns-else-is_ahead-clause-behind c none k over =
    subst (λ (o : Option Key). above page_machine o k ≡ true) (sym c.in-Some.is)
    (over_bound (option_copied c.args.cursor) c.in-Some.from (sym c.is_ahead.ensures ∙ c.if-is_ahead.false) k over)
