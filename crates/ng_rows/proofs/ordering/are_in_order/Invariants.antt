use Rattle.std.proofs.Common.{◌≡◌, drop, map}
use Rattle.ng_rows.specs.RowsInOrder.{in_order}
use Rattle.ng_instances.specs.InstanceOf.{body_of}
use Rattle.ng_rows.specs.RepeatsOf.{rows_of}
use Rattle.ng_rows.proofs.ordering.are_in_order.Given as goal

abbrev pub invariant-loop-row : goal.invariant-loop-row
invariant-loop-row l = in_order (map body_of l.bodies) l.least (rows_of (drop l.row-index l.rows)) l.sources ≡ in_order (map body_of l.bodies) 0 (rows_of l.rows) l.initial.sources
