use Rattle.std.proofs.Common.{◌≡◌, ◌++◌, map}
use Rattle.ng_app.specs.Directives.{rest_in, definitions_in}
use Rattle.ng_entries.specs.EntryOf.{entry_of}
use Rattle.ng_app.specs.RestOf.{rest_of}
use Rattle.ng_app.proofs.registering.add_all.Given as goal

abbrev pub invariant-loop-entry : goal.invariant-loop-entry
invariant-loop-entry l = record {
  rests : map rest_of l.rests.items ++ map rest_in (map entry_of l.entry-iterator.rest.items) ≡ map rest_in (map entry_of l.initial.entry-iterator.rest.items);
  added : l.registry ++ definitions_in (map entry_of l.entry-iterator.rest.items) ≡ l.initial.registry ++ definitions_in (map entry_of l.initial.entry-iterator.rest.items);
}
