use Rattle.std.proofs.Common.{◌≡◌, ◌++◌, drop}
use Rattle.ng_compose.proofs.regions.add_given.Given as goal

abbrev pub invariant-loop-content : goal.invariant-loop-content
invariant-loop-content l = l.given ++ drop l.content-index l.more ≡ l.initial.given ++ l.more
