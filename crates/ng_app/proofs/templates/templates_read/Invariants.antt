use Rattle.std.proofs.Common.{◌≡◌, [], map}
use Rattle.ng_app.specs.ProgramsOf.{partial_of}
use Rattle.ng_app.specs.Templates.{templates_read}
use Rattle.ng_app.proofs.templates.templates_read.Given as goal

abbrev pub invariant-loop-entry : goal.invariant-loop-entry
invariant-loop-entry l = templates_read l.registry (map partial_of l.templates.items) l.entry-iterator.rest.items ≡ templates_read l.registry [] l.initial.entry-iterator.rest.items
