use Rattle.std.proofs.Common.{◌≡◌, ◌≤◌, length}
use Rattle.serde_json.specs.View.{members_view}
use Rattle.ng_write.specs.Facts.{members_entered}
use Rattle.ng_write.proofs.facts.enter_members.Given as goal

abbrev pub invariant-loop-name : goal.invariant-loop-name
invariant-loop-name l = record {
  grown : length l.initial.store ≤ length l.store;
  same : members_entered l.store l.o.0 (members_view l.name-iterator) ≡ members_entered l.initial.store l.o.0 (members_view l.fn.facts.entries);
}
