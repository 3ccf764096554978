use Rattle.std.proofs.Common.{◌≡◌, map, drop}
use Rattle.ng_app.specs.Directives.{first_failing}
use Rattle.ng_entries.specs.EntryOf.{entry_of}
use Rattle.ng_app.proofs.registering.judge_by.Given as goal

abbrev pub invariant-loop-entry : goal.invariant-loop-entry
invariant-loop-entry l = record {
  place : l.item ≡ l.entry-index;
  first : first_failing l.point l.item (map entry_of (drop l.entry-index l.entries)) ≡ first_failing l.point 0 (map entry_of l.entries);
}
