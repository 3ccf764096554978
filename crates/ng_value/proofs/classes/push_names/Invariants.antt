use Rattle.std.proofs.Common.{◌≡◌, ◌++◌, map, length}
use Rattle.ng_base.specs.Views.{fields_from}
use Rattle.ng_base.specs.ViewOf.{field_of}
use Rattle.ng_language.specs.Texts.{words_of_names}
use Rattle.ng_value.proofs.classes.push_names.Given as goal

abbrev pub invariant-loop-f : goal.invariant-loop-f
invariant-loop-f l = l.words ++ words_of_names (fields_from (map field_of l.left)) ≡ l.initial.words ++ words_of_names (fields_from (map field_of l.fields))

abbrev pub decreases-loop-f : goal.decreases-loop-f
decreases-loop-f l = length l.left
