use Rattle.std.proofs.Common.{◌≡◌, ◌++◌}
use Rattle.ng_language.specs.Texts.{spaces}
use Rattle.ng_value.proofs.writing.deeper.Given as goal

abbrev pub invariant-loop-left : goal.invariant-loop-left
invariant-loop-left l = l.inner ++ spaces l.left ≡ l.margin ++ spaces l.indent

abbrev pub decreases-loop-left : goal.decreases-loop-left
decreases-loop-left l = l.left
