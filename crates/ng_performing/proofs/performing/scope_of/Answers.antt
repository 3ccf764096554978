use Rattle.std.proofs.Common.{◌≡◌, ap, sym, ◌∙◌, subst, Some, None}
use Rattle.ng_link.specs.Events.{scope_of}
use Rattle.ng_page.specs.PageOf.{state_of}
use Rattle.ng_performing.specs.Aims.{scope_in}
use Rattle.ng_performing.proofs.Aimed.{scope_nowhere, scope_found}
use Rattle.ng_performing.proofs.performing.scope_of.Goals as goal

pub returns-in-None-clause-scope : goal.returns-in-None-clause-scope
returns-in-None-clause-scope c = subst (λ o. None ≡ scope_in o (state_of c.args.page.now)) (sym c.in-Node.is) (scope_nowhere c.args.page.now c.requires c.in-Node.target c.in-None.ensures.found)

pub returns-in-Some-clause-scope : goal.returns-in-Some-clause-scope
returns-in-Some-clause-scope c =
    ap (λ n. Some n) c.scope_of.ensures.scope
    ∙ subst (λ o. Some (scope_of (state_of c.args.page.now) c.in-Some.node.made.0) ≡ scope_in o (state_of c.args.page.now)) (sym c.in-Node.is) (scope_found c.args.page.now c.requires c.in-Node.target c.in-Some.node c.in-Some.ensures.found)
