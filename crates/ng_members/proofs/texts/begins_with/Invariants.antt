use Rattle.std.proofs.Common.{◌≡◌, length}
use Rattle.ng_members.specs.Methods.{begins_with}
use Rattle.ng_members.proofs.texts.begins_with.Given as goal

abbrev pub invariant-loop-d : goal.invariant-loop-d
invariant-loop-d l = begins_with l.left l.rest ≡ begins_with l.start l.text

abbrev pub decreases-loop-d : goal.decreases-loop-d
decreases-loop-d l = length l.left
