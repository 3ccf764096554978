use Rattle.std.proofs.Common.{◌≡◌, drop, map}
use Rattle.ng_instances.specs.InstanceOf.{body_of}
use Rattle.ng_rows.specs.RepeatRows.{keys_of}
use Rattle.ng_rows.specs.Splices.{rise_from}
use Rattle.ng_rows.proofs.splicing.rows_rise.Given as goal

abbrev pub invariant-loop-body : goal.invariant-loop-body
invariant-loop-body l = rise_from l.least (drop l.body-index (keys_of (map body_of l.bodies))) ≡ rise_from 0 (keys_of (map body_of l.bodies))
