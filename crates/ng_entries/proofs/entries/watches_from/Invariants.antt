use Rattle.std.proofs.Common.{◌≡◌, [], drop}
use Rattle.serde_json.specs.View.{items_view}
use Rattle.ng_entries.specs.Entries.{watches_after}
use Rattle.ng_entries.proofs.entries.watches_from.Given as goal

abbrev pub invariant-loop-item : goal.invariant-loop-item
invariant-loop-item l = watches_after l.entries.items (items_view (drop l.item-index l.items)) ≡ watches_after [] (items_view l.items)
