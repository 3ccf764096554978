use Rattle.std.proofs.Common.{◌≡◌, length}
use Rattle.std.specs.Char.{is_ascii_alphanumeric}
use Rattle.std.specs.List.{list_all}
use Rattle.ng_collect.proofs.definition.is_alphanumeric.Given as goal

abbrev pub invariant-loop-c : goal.invariant-loop-c
invariant-loop-c l = list_all is_ascii_alphanumeric l.reader ≡ list_all is_ascii_alphanumeric l.initial.reader

abbrev pub decreases-loop-c : goal.decreases-loop-c
decreases-loop-c l = length l.reader
