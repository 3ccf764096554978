use Rattle.std.proofs.Common.{◌≡◌, drop}
use Rattle.serde_json.specs.View.{items_view, members_view}
use Rattle.ng_store.specs.Json.{are_items_long, are_members_long}
use Rattle.ng_store.proofs.json.+long.Given as goal

abbrev pub invariant-are_items_long-loop-item : goal.invariant-are_items_long-loop-item
invariant-are_items_long-loop-item l = are_items_long (items_view (drop l.item-index l.items)) ≡ are_items_long (items_view l.items)

abbrev pub invariant-are_members_long-loop-v : goal.invariant-are_members_long-loop-v
invariant-are_members_long-loop-v l = are_members_long (members_view l.v-iterator) ≡ are_members_long (members_view l.members.entries)
