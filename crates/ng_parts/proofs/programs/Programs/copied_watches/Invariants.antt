use Rattle.std.proofs.Common.{◌≡◌, ◌++◌, map, drop}
use Rattle.ng_parts.specs.ProgramsOf.{watch_of}
use Rattle.ng_parts.proofs.programs.Programs.copied_watches.Given as goal

abbrev pub invariant-loop-watch : goal.invariant-loop-watch
invariant-loop-watch l = map watch_of l.copies.items ++ map watch_of (drop l.watch-index l.watch-items) ≡ map watch_of l.watch-items
