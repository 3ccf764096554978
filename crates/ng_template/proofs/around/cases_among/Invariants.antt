use Rattle.std.proofs.Common.{◌≡◌, ◌++◌, drop, map}
use Rattle.ng_template.specs.Around.{cases_in}
use Rattle.ng_template.specs.AroundOf.{case_of}
use Rattle.ng_template.proofs.around.cases_among.Given as goal

abbrev pub invariant-loop-pick : goal.invariant-loop-pick
invariant-loop-pick l = map case_of l.cases.items ++ cases_in (drop l.pick-index l.picks) ≡ cases_in l.picks
