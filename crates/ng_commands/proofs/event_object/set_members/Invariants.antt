use Rattle.std.proofs.Common.{◌≡◌, ◌≤◌, length}
use Rattle.serde_json.specs.View.{members_view}
use Rattle.ng_commands.specs.EventObject.{extra_set}
use Rattle.ng_commands.proofs.event_object.set_members.Given as goal

abbrev pub invariant-loop-name : goal.invariant-loop-name
invariant-loop-name l = record {
  grown : length l.initial.store ≤ length l.store;
  same : extra_set l.store l.o.0 (members_view l.name-iterator) ≡ extra_set l.initial.store l.o.0 (members_view l.extra.entries);
}
