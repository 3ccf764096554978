use Rattle.std.proofs.Common.{◌≡◌, [], drop}
use Rattle.serde_json.specs.View.{items_view}
use Rattle.ng_entries.specs.Entries.{listeners_after}
use Rattle.ng_entries.proofs.entries.listeners_of.Given as goal

abbrev pub invariant-loop-item : goal.invariant-loop-item
invariant-loop-item l = listeners_after l.entries.items (items_view (drop l.item-index l.items)) ≡ listeners_after [] (items_view l.items)
