use Rattle.std.proofs.Common.{◌≡◌, drop}
use Rattle.std.specs.List.{list_any}
use Rattle.std.specs.Prelude.{◌==◌}
use Rattle.ng_compose.proofs.composed.is_among.Given as goal

abbrev pub invariant-loop-k : goal.invariant-loop-k
invariant-loop-k l = list_any (λ i. i == l.n) (drop l.k-index l.numbers) ≡ list_any (λ i. i == l.n) l.numbers
