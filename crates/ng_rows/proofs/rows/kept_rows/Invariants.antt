use Rattle.std.proofs.Common.{◌≡◌, ◌++◌, drop, map}
use Rattle.ng_rows.specs.RepeatRows.{kept_rows}
use Rattle.ng_rows.specs.RepeatsOf.{rows_of}
use Rattle.ng_instances.specs.InstanceOf.{body_of}
use Rattle.ng_rows.proofs.rows.kept_rows.Given as goal

abbrev pub invariant-loop-row : goal.invariant-loop-row
invariant-loop-row l = map body_of l.kept.items ++ kept_rows (rows_of (drop l.row-index l.rows)) ≡ kept_rows (rows_of l.rows)
