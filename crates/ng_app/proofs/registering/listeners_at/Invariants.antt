use Rattle.std.proofs.Common.{◌≡◌, [], map}
use Rattle.ng_parts.specs.ProgramsOf.{listener_of}
use Rattle.ng_app.specs.Directives.{listeners_at}
use Rattle.ng_app.proofs.registering.listeners_at.Given as goal

abbrev pub invariant-loop-entry : goal.invariant-loop-entry
invariant-loop-entry l = listeners_at l.item (map listener_of l.listeners.items) l.entry-iterator.rest.items ≡ listeners_at l.item [] l.initial.entry-iterator.rest.items
