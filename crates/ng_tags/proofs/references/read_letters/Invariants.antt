use Rattle.std.proofs.Common.{◌≡◌, length}
use Rattle.ng_tags.specs.References.{letter_run}
use Rattle.ng_tags.proofs.references.read_letters.Given as goal

abbrev pub invariant-loop-c : goal.invariant-loop-c
invariant-loop-c l = letter_run l.name l.reader ≡ letter_run l.initial.name l.initial.reader

abbrev pub decreases-loop-c : goal.decreases-loop-c
decreases-loop-c l = length l.reader
