use Rattle.std.proofs.Common.{◌≡◌, ◌≤◌, [], length}
use Rattle.ng_core.specs.Frames.{IsSound, state_of}
use Rattle.ng_drawing.specs.RolesOf.{entries_of}
use Rattle.ng_rows.specs.RepeatRows.{items_made}
use Rattle.ng_rows.specs.TrackingOf.{EntriesStand, ItemsStand, items_of}
use Rattle.ng_rows.proofs.tracking.make_items.Given as goal

abbrev pub invariant-loop-entry : goal.invariant-loop-entry
invariant-loop-entry l = record {
  run : items_made (entries_of l.entry-iterator.rest.items) (items_of l.items.items) (state_of l.core) ≡ items_made (entries_of l.initial.entry-iterator.rest.items) [] (state_of l.initial.core);
  sound : IsSound l.core;
  depth : l.core.depth ≡ l.initial.core.depth;
  grown : length l.initial.core.store ≤ length l.core.store;
  stands : ItemsStand (length l.core.store) (items_of l.items.items);
  entries : EntriesStand (length l.core.store) (entries_of l.entry-iterator.rest.items);
}
