use Rattle.std.proofs.Common.{◌≡◌, ◌++◌, map, drop}
use Rattle.ng_base.specs.Objects.{object_at}
use Rattle.ng_language.specs.Unfolding.{entries_of, own_entries}
use Rattle.ng_filters.specs.Seen.{field_seen}
use Rattle.ng_filters.proofs.properties.stored.Given as goal

abbrev pub invariant-loop-name : goal.invariant-loop-name
invariant-loop-name l = map field_seen l.done.items ++ entries_of (object_at l.store l.o.0) (drop l.name-index l.name-items) ≡ own_entries (object_at l.store l.o.0)
