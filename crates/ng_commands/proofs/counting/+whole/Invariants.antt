use Rattle.std.proofs.Common.{◌≡◌, drop}
use Rattle.serde_json.specs.View.{items_view, members_view}
use Rattle.ng_store.specs.Json.{are_items_whole, are_members_whole}
use Rattle.ng_commands.proofs.counting.+whole.Given as goal

abbrev pub invariant-are_items_whole-loop-item : goal.invariant-are_items_whole-loop-item
invariant-are_items_whole-loop-item l = are_items_whole (items_view (drop l.item-index l.items)) ≡ are_items_whole (items_view l.items)

abbrev pub invariant-are_members_whole-loop-v : goal.invariant-are_members_whole-loop-v
invariant-are_members_whole-loop-v l = are_members_whole (members_view l.v-iterator) ≡ are_members_whole (members_view l.members.entries)
