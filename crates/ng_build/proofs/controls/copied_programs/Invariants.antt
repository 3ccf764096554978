use Rattle.std.proofs.Common.{◌≡◌, ◌++◌, drop, map}
use Rattle.ng_parse.specs.ProgramOf.{program}
use Rattle.ng_build.proofs.controls.copied_programs.Given as goal

abbrev pub invariant-loop-p : goal.invariant-loop-p
invariant-loop-p l = map program l.copies.items ++ map program (drop l.p-index l.programs) ≡ map program l.programs
