use Rattle.std.proofs.Common.{◌≡◌, ◌++◌, ℕ, drop, map}
use Rattle.ng_parts.specs.ActsOf.{uses_of, scopes_of}
use Rattle.ng_build.specs.Linking.{scope_of, leaves}
use Rattle.ng_build.specs.StepOf.{step_of}
use Rattle.ng_build.proofs.ordering.add_leaves.Given as goal

abbrev pub invariant-loop-directive : goal.invariant-loop-directive
invariant-loop-directive l =
    let one = λ (d : ℕ). leaves d (scope_of (uses_of l.uses) (scopes_of l.scopes) d) in
    map step_of l.order.items ++ map one (drop l.directive-index l.directives) ≡ map step_of l.initial.order.items ++ map one l.directives
