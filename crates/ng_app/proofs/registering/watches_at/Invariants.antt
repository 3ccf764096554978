use Rattle.std.proofs.Common.{◌≡◌, [], map}
use Rattle.ng_parts.specs.ProgramsOf.{watch_of}
use Rattle.ng_app.specs.Directives.{watches_at}
use Rattle.ng_app.proofs.registering.watches_at.Given as goal

abbrev pub invariant-loop-entry : goal.invariant-loop-entry
invariant-loop-entry l = watches_at l.item (map watch_of l.watches.items) l.entry-iterator.rest.items ≡ watches_at l.item [] l.initial.entry-iterator.rest.items
