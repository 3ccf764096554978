use Rattle.std.proofs.Common.{◌≡◌, drop}
use Rattle.ng_page.specs.Dispatched.{told_all}
use Rattle.ng_printing.specs.EventStep.{all_went_well}
use Rattle.ng_printing.proofs.events.all_went_well.Given as goal

abbrev pub invariant-loop-outcome : goal.invariant-loop-outcome
invariant-loop-outcome l = all_went_well (told_all (drop l.outcome-index l.outcomes)) ≡ all_went_well (told_all l.outcomes)
