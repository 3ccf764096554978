use Rattle.std.proofs.Common.{◌<◌, ℕ, length, subst, sym}
use Rattle.ng_steps.proofs.Placed.{ground_below}
use Rattle.ng_steps.specs.LinkingOf.{IsGround}
use Rattle.ng_instances.specs.BoundOf.{registered_of}
use Rattle.ng_steps.proofs.stepping.start_on.Goals as goal

pub start-requires-clause-scope : goal.start-requires-clause-scope
start-requires-clause-scope c =
    let n : ℕ = length c.args.works.now.core.scopes in
    subst (λ (k : ℕ). k < n) (sym c.scope.ensures) (ground_below n (registered_of c.args.done.now.made).at_hand c.args.scope c.requires.whole.root c.requires.grounded.scopes)

pub returns-clause-grounded : goal.returns-clause-grounded
returns-clause-grounded c = subst (λ (n : ℕ). IsGround n (registered_of c.args.done.now.made).at_hand) (sym c.in_ok-added.ensures.scopes) c.requires.grounded
