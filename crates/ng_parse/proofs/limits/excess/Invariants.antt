use Rattle.std.proofs.Common.{◌≡◌, ◌≤◌, length}
use Rattle.ng_language.specs.Parsing.{one_too_many}
use Rattle.ng_parse.proofs.limits.excess.Given as goal

abbrev pub invariant-loop-t : goal.invariant-loop-t
invariant-loop-t l = (one_too_many l.index l.open l.rest ≡ one_too_many 0 0 l.tokens) × (l.index ≤ 1000) × (l.open ≤ 100)

abbrev pub decreases-loop-t : goal.decreases-loop-t
decreases-loop-t l = length l.rest
