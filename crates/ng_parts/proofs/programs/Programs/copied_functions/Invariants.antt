use Rattle.std.proofs.Common.{◌≡◌, ◌++◌, map, drop}
use Rattle.ng_parts.specs.ProgramsOf.{function_of}
use Rattle.ng_parts.proofs.programs.Programs.copied_functions.Given as goal

abbrev pub invariant-loop-function : goal.invariant-loop-function
invariant-loop-function l = map function_of l.copies.items ++ map function_of (drop l.function-index l.function-items) ≡ map function_of l.function-items
