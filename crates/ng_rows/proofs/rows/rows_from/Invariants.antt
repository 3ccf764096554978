use Rattle.std.proofs.Common.{◌≡◌, ◌++◌, drop, map}
use Rattle.ng_rows.specs.RepeatRows.{rows_from}
use Rattle.ng_rows.specs.RepeatsOf.{rows_of}
use Rattle.ng_rows.specs.TrackingOf.{items_of}
use Rattle.ng_instances.specs.InstanceOf.{body_of}
use Rattle.ng_rows.proofs.rows.rows_from.Given as goal

abbrev pub invariant-loop-item : goal.invariant-loop-item
invariant-loop-item l = rows_of l.rows.items ++ rows_from (map body_of l.bodies) (items_of (drop l.item-index l.items)) l.keys l.sources
    ≡ rows_from (map body_of l.bodies) (items_of l.items) l.initial.keys l.initial.sources
