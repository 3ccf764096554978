use Rattle.std.proofs.Common.{◌≡◌, [], map}
use Rattle.ng_parts.specs.ProgramsOf.{function_of}
use Rattle.ng_app.specs.Directives.{functions_at}
use Rattle.ng_app.proofs.registering.functions_at.Given as goal

abbrev pub invariant-loop-entry : goal.invariant-loop-entry
invariant-loop-entry l = functions_at l.item (map function_of l.functions.items) l.entry-iterator.rest.items ≡ functions_at l.item [] l.initial.entry-iterator.rest.items
