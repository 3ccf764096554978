use Rattle.std.proofs.Common.{◌∙◌, ◌<◌, ℕ, ap, length, subst, sym}
use Rattle.ng_changes.proofs.Answered.{ok_then}
use Rattle.ng_steps.proofs.Placed.{ground_below}
use Rattle.ng_steps.specs.Attending.{installed_on}
use Rattle.ng_steps.specs.Links.{Linking}
use Rattle.ng_steps.specs.LinkingOf.{linking, IsGround}
use Rattle.ng_instances.specs.BoundOf.{registered_of}
use Rattle.ng_link.specs.State.{State}
use Rattle.ng_steps.proofs.stepping.install_on.Goals as goal

pub install-requires-clause-scope : goal.install-requires-clause-scope
install-requires-clause-scope c =
    let n : ℕ = length c.args.works.now.core.scopes in
    subst (λ (k : ℕ). k < n) (sym c.scope.ensures) (ground_below n (registered_of c.args.done.now.made).at_hand c.args.scope c.requires.whole.root c.requires.grounded.scopes)

pub returns-clause-installed : goal.returns-clause-installed
returns-clause-installed c =
    let g : Linking = linking c.args.works.now c.args.done.now in
    ok_then c.install.result c.install.ensures.state
    (λ e. ap (λ (s : State). record g { state = s }) e ∙ ap (λ (k : ℕ). record g { state = installed_on c.args.directive k g.state }) c.scope.ensures)

pub returns-clause-grounded : goal.returns-clause-grounded
returns-clause-grounded c =
    ok_then c.install.result c.install.ensures.count (λ e. subst (λ (n : ℕ). IsGround n (registered_of c.args.done.now.made).at_hand) (sym e) c.requires.grounded)
