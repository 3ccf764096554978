use Rattle.std.proofs.Common.{◌≡◌, length}
use Rattle.ng_tags.specs.Attributes.{attributes_from}
use Rattle.ng_tags.proofs.attributes.read_attributes.Given as goal

abbrev pub invariant-loop-c : goal.invariant-loop-c
invariant-loop-c l = attributes_from l.total l.found.entries l.fault l.reader ≡ attributes_from l.initial.total l.initial.found.entries l.initial.fault l.initial.reader

abbrev pub decreases-loop-c : goal.decreases-loop-c
decreases-loop-c l = length l.reader
