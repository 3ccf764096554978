use Rattle.std.proofs.Common.{◌≡◌, ◌++◌, [], map, drop}
use Rattle.ng_base.specs.ViewOf.{field_of}
use Rattle.ng_language.specs.Unfolding.{indexed_from, others_of}
use Rattle.ng_filters.specs.Seen.{field_seen, indexed_seen}
use Rattle.ng_filters.proofs.properties.split_fields.Given as goal

abbrev pub invariant-loop-f : goal.invariant-loop-f
invariant-loop-f l = record {
  indexed : indexed_from (map indexed_seen l.split.indexed.entries) (map field_of (drop l.f-index l.fields)) ≡ indexed_from [] (map field_of l.fields);
  others : map field_seen l.split.others.items ++ others_of (map field_of (drop l.f-index l.fields)) ≡ others_of (map field_of l.fields);
}
