use Rattle.std.proofs.Common.{◌≡◌, ◌++◌, length}
use Rattle.std.specs.Prelude.{encode_utf8_all}
use Rattle.std.specs.List.{flat_map}
use Rattle.ng_markup.specs.Forest.{value_char}
use Rattle.ng_html.proofs.writing.push_value.Given as goal

abbrev pub invariant-loop-c : goal.invariant-loop-c
invariant-loop-c l = l.into.items ++ encode_utf8_all (flat_map value_char l.reader) ≡ l.initial.into.items ++ encode_utf8_all (flat_map value_char l.initial.reader)

abbrev pub decreases-loop-c : goal.decreases-loop-c
decreases-loop-c l = length l.reader
