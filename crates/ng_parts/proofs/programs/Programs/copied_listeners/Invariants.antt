use Rattle.std.proofs.Common.{◌≡◌, ◌++◌, map, drop}
use Rattle.ng_parts.specs.ProgramsOf.{listener_of}
use Rattle.ng_parts.proofs.programs.Programs.copied_listeners.Given as goal

abbrev pub invariant-loop-listener : goal.invariant-loop-listener
invariant-loop-listener l = map listener_of l.copies.items ++ map listener_of (drop l.listener-index l.listener-items) ≡ map listener_of l.listener-items
