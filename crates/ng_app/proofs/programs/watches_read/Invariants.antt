use Rattle.std.proofs.Common.{◌≡◌, [], map}
use Rattle.ng_app.specs.Programs.{watches_read}
use Rattle.ng_parts.specs.ProgramsOf.{watch_of}
use Rattle.ng_app.proofs.programs.watches_read.Given as goal

abbrev pub invariant-loop-entry : goal.invariant-loop-entry
invariant-loop-entry l = watches_read (map watch_of l.watches.items) l.entry-iterator.rest.items ≡ watches_read [] l.initial.entry-iterator.rest.items
