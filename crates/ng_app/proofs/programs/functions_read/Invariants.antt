use Rattle.std.proofs.Common.{◌≡◌, [], map}
use Rattle.ng_app.specs.Programs.{functions_read}
use Rattle.ng_parts.specs.ProgramsOf.{function_of}
use Rattle.ng_app.proofs.programs.functions_read.Given as goal

abbrev pub invariant-loop-entry : goal.invariant-loop-entry
invariant-loop-entry l = functions_read (map function_of l.functions.items) l.entry-iterator.rest.items ≡ functions_read [] l.initial.entry-iterator.rest.items
