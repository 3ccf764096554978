use Rattle.std.proofs.Common.{◌≡◌, [], map}
use Rattle.ng_app.specs.Programs.{listeners_read}
use Rattle.ng_parts.specs.ProgramsOf.{listener_of}
use Rattle.ng_app.proofs.programs.listeners_read.Given as goal

abbrev pub invariant-loop-entry : goal.invariant-loop-entry
invariant-loop-entry l = listeners_read (map listener_of l.listeners.items) l.entry-iterator.rest.items ≡ listeners_read [] l.initial.entry-iterator.rest.items
