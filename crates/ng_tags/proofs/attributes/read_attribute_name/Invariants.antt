use Rattle.std.proofs.Common.{◌≡◌, length}
use Rattle.ng_tags.specs.Attributes.{attribute_run}
use Rattle.ng_tags.proofs.attributes.read_attribute_name.Given as goal

abbrev pub invariant-loop-c : goal.invariant-loop-c
invariant-loop-c l = attribute_run l.name l.reader ≡ attribute_run l.initial.name l.initial.reader

abbrev pub decreases-loop-c : goal.decreases-loop-c
decreases-loop-c l = length l.reader
