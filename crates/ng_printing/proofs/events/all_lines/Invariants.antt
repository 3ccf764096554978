use Rattle.std.proofs.Common.{◌≡◌, ◌++◌, drop}
use Rattle.std.specs.List.{flat_map}
use Rattle.ng_page.specs.Dispatched.{told_all}
use Rattle.ng_printing.specs.EventStep.{handler_lines}
use Rattle.ng_printing.proofs.events.all_lines.Given as goal

abbrev pub invariant-loop-outcome : goal.invariant-loop-outcome
invariant-loop-outcome l =
    l.bytes.items ++ flat_map (handler_lines l.flags.trace) (told_all (drop l.outcome-index l.outcomes)) ≡ l.initial.bytes.items ++ flat_map (handler_lines l.flags.trace) (told_all l.outcomes)
