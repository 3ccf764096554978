use Rattle.std.proofs.Common.{◌≡◌, ◌≤◌, ◌+◌, ◌*◌, [], vec_len}
use Rattle.std.specs.VecDeque.{deque_len}
use Rattle.serde_json.specs.View.{view, items_view, members_view}
use Rattle.ng_store.specs.Json.{placed_items, placed_members, objects_in_items, objects_in_members}
use Rattle.ng_store.specs.ObjectOf.{objects_of, properties_of}
use Rattle.ng_store.proofs.Sizes.{values_in, values_in_items, values_in_members}
use Rattle.ng_store.proofs.placing.+place.Given as goal

abbrev pub invariant-place_items-loop-item : goal.invariant-place_items-loop-item
invariant-place_items-loop-item l = record {
  count : vec_len l.made + objects_in_items (items_view l.left.items) ≡ vec_len l.initial.made + objects_in_items (items_view l.fn.items.items);
  size : values_in_items (items_view l.left.items) ≤ values_in_items (items_view l.fn.items.items);
  same : placed_items l.base (items_view l.left.items) (objects_of l.made.items) l.done.items ≡ placed_items l.base (items_view l.fn.items.items) (objects_of l.initial.made.items) [];
}

abbrev pub decreases-place : goal.decreases-place
decreases-place l = 2 * values_in (view l.v)

abbrev pub decreases-place_items : goal.decreases-place_items
decreases-place_items l = 2 * values_in_items (items_view l.items.items) + 1

abbrev pub decreases-place_members : goal.decreases-place_members
decreases-place_members l = 2 * values_in_members (members_view l.members.entries) + 1

abbrev pub decreases-place_items-loop-item : goal.decreases-place_items-loop-item
decreases-place_items-loop-item l = deque_len l.left

abbrev pub invariant-place_members-loop-key : goal.invariant-place_members-loop-key
invariant-place_members-loop-key l = record {
  count : vec_len l.made + objects_in_members (members_view l.key-iterator) ≡ vec_len l.initial.made + objects_in_members (members_view l.fn.members.entries);
  size : values_in_members (members_view l.key-iterator) ≤ values_in_members (members_view l.fn.members.entries);
  same : placed_members l.base (members_view l.key-iterator) (objects_of l.made.items) (properties_of l.done) ≡ placed_members l.base (members_view l.fn.members.entries) (objects_of l.initial.made.items) [];
}
