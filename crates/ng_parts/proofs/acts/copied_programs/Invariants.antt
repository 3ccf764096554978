use Rattle.std.proofs.Common.{◌≡◌, ◌++◌, map, drop}
use Rattle.ng_parse.specs.ProgramOf.{program}
use Rattle.ng_parts.proofs.acts.copied_programs.Given as goal

abbrev pub invariant-loop-program : goal.invariant-loop-program
invariant-loop-program l = map program l.copies.items ++ map program (drop l.program-index l.programs) ≡ map program l.programs
