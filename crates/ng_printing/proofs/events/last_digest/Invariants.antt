use Rattle.std.proofs.Common.{◌≡◌, drop}
use Rattle.std.specs.Option.{option_or}
use Rattle.ng_page.specs.Dispatch.{last_digest}
use Rattle.ng_page.specs.Dispatched.{told_all}
use Rattle.ng_printing.proofs.events.last_digest.Given as goal

abbrev pub invariant-loop-outcome : goal.invariant-loop-outcome
invariant-loop-outcome l = option_or (last_digest (told_all (drop l.outcome-index l.outcomes))) l.digest ≡ last_digest (told_all l.outcomes)
