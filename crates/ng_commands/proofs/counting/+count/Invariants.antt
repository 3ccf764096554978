use Rattle.std.proofs.Common.{◌≡◌, ◌≤◌, ◌+◌, drop, min}
use Rattle.serde_json.specs.View.{items_view, members_view}
use Rattle.ng_store.specs.Json.{objects_in_items, objects_in_members}
use Rattle.ng_commands.proofs.counting.+count.Given as goal

abbrev pub invariant-count_items-loop-item : goal.invariant-count_items-loop-item
invariant-count_items-loop-item l = record { fits : l.all ≤ 4294967295; same : min (l.all + objects_in_items (items_view (drop l.item-index l.items))) 4294967295 ≡ min (objects_in_items (items_view l.items)) 4294967295 }

abbrev pub invariant-count_members-loop-v : goal.invariant-count_members-loop-v
invariant-count_members-loop-v l = record { fits : l.all ≤ 4294967295; same : min (l.all + objects_in_members (members_view l.v-iterator)) 4294967295 ≡ min (objects_in_members (members_view l.members.entries)) 4294967295 }
