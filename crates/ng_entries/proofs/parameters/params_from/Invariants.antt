use Rattle.std.proofs.Common.{◌≡◌, [], drop}
use Rattle.serde_json.specs.View.{items_view}
use Rattle.ng_entries.specs.Entries.{params_after}
use Rattle.ng_entries.proofs.parameters.params_from.Given as goal

abbrev pub invariant-loop-item : goal.invariant-loop-item
invariant-loop-item l = params_after l.names (items_view (drop l.item-index l.items)) ≡ params_after [] (items_view l.items)
