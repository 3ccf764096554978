use Rattle.std.proofs.Common.{◌≡◌, length}
use Rattle.ng_members.specs.Methods.{found_from}
use Rattle.ng_members.proofs.texts.find.Given as goal

abbrev pub invariant-loop-behind : goal.invariant-loop-behind
invariant-loop-behind l = found_from l.wanted l.n l.rest ≡ found_from l.wanted 0 l.text

abbrev pub decreases-loop-behind : goal.decreases-loop-behind
decreases-loop-behind l = length l.rest
