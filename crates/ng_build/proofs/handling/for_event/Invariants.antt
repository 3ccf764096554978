use Rattle.std.proofs.Common.{◌≡◌, ◌++◌, drop, map}
use Rattle.ng_parse.specs.ProgramOf.{program}
use Rattle.ng_parts.specs.Seen.{handler_of}
use Rattle.ng_build.specs.Handlers.{for_event}
use Rattle.ng_build.proofs.handling.for_event.Given as goal

abbrev pub invariant-loop-handler : goal.invariant-loop-handler
invariant-loop-handler l = map program l.programs.items ++ for_event l.event (map handler_of (drop l.handler-index l.handlers)) ≡ for_event l.event (map handler_of l.handlers)
