use Rattle.std.proofs.Common.{◌≡◌, ◌++◌, drop}
use Rattle.ng_drawing.proofs.origin.Given.copied.Given as goal

abbrev pub invariant-loop-content : goal.invariant-loop-content
invariant-loop-content l = l.copy ++ drop l.content-index l.content-items ≡ l.content-items
