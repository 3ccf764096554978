use Rattle.std.proofs.Common.{◌≡◌, map, take}
use Rattle.ng_instances.specs.InstanceOf.{body_of}
use Rattle.ng_rows.specs.RepeatRows.{keys_of}
use Rattle.ng_rows.proofs.splicing.same_front.Given as goal

abbrev pub invariant-loop-i : goal.invariant-loop-i
invariant-loop-i l = take l.i (keys_of (map body_of l.bodies)) ≡ take l.i l.keys
