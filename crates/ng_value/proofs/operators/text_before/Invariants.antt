use Rattle.std.proofs.Common.{◌≡◌, length}
use Rattle.ng_language.specs.Operators.{text_before}
use Rattle.ng_value.proofs.operators.text_before.Given as goal

abbrev pub invariant-loop-c : goal.invariant-loop-c
invariant-loop-c l = text_before l.or_equal l.left l.right ≡ text_before l.or_equal l.initial.left l.initial.right

abbrev pub decreases-loop-c : goal.decreases-loop-c
decreases-loop-c l = length l.left
