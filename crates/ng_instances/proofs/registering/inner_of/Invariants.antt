use Rattle.std.proofs.Common.{◌≡◌, ◌++◌, ℕ, drop, map}
use Rattle.ng_behaviour.specs.Scopes.{path_at}
use Rattle.ng_instances.specs.BoundOf.{inner_of}
use Rattle.ng_instances.specs.Changing.{inner_on}
use Rattle.ng_instances.specs.Instances.{Inner}
use Rattle.ng_instances.proofs.registering.inner_of.Given as goal

abbrev pub invariant-loop-i : goal.invariant-loop-i
invariant-loop-i l =
    let made = λ (n : ℕ). let x : Inner = record { scope = n; path = path_at l.core.scopes n } in x in
    map inner_of l.inner.items ++ map made (drop l.i (map (λ s. s.0) l.scopes)) ≡ inner_on l.core.scopes (map (λ s. s.0) l.scopes)
