use Rattle.std.proofs.Common.{List, ℕ, ap, ◌∙◌}
use Rattle.ng_instances.specs.Instances.{Inner}
use Rattle.ng_instances.proofs.registering.inner_at.Goals as goal

pub returns : goal.returns
returns c = ap (λ (p : List ℕ). let x : Inner = record { scope = c.args.scope.0; path = p } in x) (c.in_ok-copied.ensures ∙ c.path.ensures)
