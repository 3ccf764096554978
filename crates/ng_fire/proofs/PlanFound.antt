-- A plan of rows that is there was found without a fault.
use Rattle.std.proofs.Common.{◌≡◌, ap}
use Rattle.std.specs.Prelude.{Result, Ok, Err}
use Rattle.ng_blocks.specs.declared.plans.Plan.{Plan}
use Rattle.ng_blocks.specs.declared.plans.PlanFault.{PlanFault}
use Rattle.ng_rows.specs.RepeatRows.{as_fault}

pub plan_is : (r : Result Plan PlanFault) (p : Plan) → as_fault r ≡ Ok p → r ≡ Ok p
plan_is (Ok q) p e = (let same : q ≡ p = cc in ap (λ (x : Plan). (let y : Result Plan PlanFault = Ok x in y)) same)
plan_is (Err f) p e = absurd (cc)
