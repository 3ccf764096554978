use Rattle.std.proofs.Common.{◌≡◌, [], map, drop}
use Rattle.serde_json.specs.View.{items_view}
use Rattle.ng_entries.specs.DirectiveEntries.{directives_after}
use Rattle.ng_entries.specs.EntryOf.{entry_of}
use Rattle.ng_entries.proofs.directives.directives_from.Given as goal

abbrev pub invariant-loop-item : goal.invariant-loop-item
invariant-loop-item l = directives_after (map entry_of l.entries.items) (items_view (drop l.item-index l.items)) ≡ directives_after [] (items_view l.items)
