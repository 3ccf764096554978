use Rattle.std.proofs.Common.{◌≡◌, ℕ, List, sym, subst}
use Rattle.ng_base.specs.Meets.{Gives}
use Rattle.ng_collect.specs.declared.definition.DirectiveDef.{DirectiveDef}
use Rattle.ng_directives.specs.Free.{is_tpl_want}
use Rattle.ng_parts.specs.FragmentOf.{sites_of}
use Rattle.ng_elements.specs.ReadOf.{asked_of}
use Rattle.ng_elements.specs.Using.{numbers_in, uses_of_numbers}
use Rattle.ng_elements.proofs.using.uses_in.Goals as goal

pub returns : goal.returns
returns c =
    let place = c.args.place in
    let ats = c.args.attrs.now in
    let sites = sites_of c.args.sites.items in
    let numbers : numbers_in c.args.picks.now ≡ c.in_ok-numbers.numbers.items = (let two = c.in_ok-numbers.ensures in cc) in
    subst (λ (ns : List ℕ). Gives is_tpl_want asked_of (uses_of_numbers place c.args.r.now ats ns sites) c.asked_by_numbers.result) (sym numbers)
    (subst (λ (defs : List DirectiveDef). Gives is_tpl_want asked_of (uses_of_numbers place defs ats c.in_ok-numbers.numbers.items sites) c.asked_by_numbers.result) c.definitions.ensures c.asked_by_numbers.ensures)
