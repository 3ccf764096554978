use Rattle.std.proofs.Common.{◌≡◌, ◌<◌, ℕ, List, ap, sym, subst, ◌∙◌, length}
use Rattle.std.specs.Prelude.{IfOk}
use Rattle.ng_behaviour.specs.Scopes.{path_at}
use Rattle.ng_build.specs.Shape.{key_on}
use Rattle.ng_instances.proofs.registering.site_key.Goals as goal

pub path-requires : goal.path-requires
path-requires c = subst (λ (n : ℕ). n < length c.args.core.now.scopes) (sym c.scope.ensures) (c.requires c.args.mark.under)

pub returns : goal.returns
returns c = subst (λ (p : List ℕ). IfOk c.key_on.result (λ k. k ≡ key_on p c.args.serial)) (c.path.ensures ∙ ap (path_at c.args.core.now.scopes) c.scope.ensures) c.key_on.ensures
