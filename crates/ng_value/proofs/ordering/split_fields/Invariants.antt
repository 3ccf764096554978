use Rattle.std.proofs.Common.{◌≡◌, [], map}
use Rattle.ng_base.specs.ViewOf.{field_of}
use Rattle.ng_language.specs.Unfolding.{indexed_from, others_of}
use Rattle.ng_value.specs.Seen.{indexed_field}
use Rattle.ng_value.proofs.ordering.split_fields.Given as goal

abbrev pub invariant-loop-name : goal.invariant-loop-name
invariant-loop-name l = record { indexed : map indexed_field l.split.indexed.entries ≡ indexed_from [] (map field_of l.yielded); others : map field_of l.split.others.items ≡ others_of (map field_of l.yielded) }
