use Rattle.std.proofs.Common.{◌≡◌, ◌++◌, drop, map}
use Rattle.ng_parts.specs.Seen.{handler_of}
use Rattle.ng_build.proofs.handling.copied_handlers.Given as goal

abbrev pub invariant-loop-handler : goal.invariant-loop-handler
invariant-loop-handler l = map handler_of l.copy.items ++ map handler_of (drop l.handler-index l.handlers) ≡ map handler_of l.handlers
