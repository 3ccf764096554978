use Rattle.std.proofs.Common.{◌≡◌, ◌++◌, drop, map}
use Rattle.ng_rows.specs.RepeatRows.{keys_of}
use Rattle.ng_instances.specs.InstanceOf.{body_of}
use Rattle.ng_rows.proofs.splicing.keys_of.Given as goal

abbrev pub invariant-loop-body : goal.invariant-loop-body
invariant-loop-body l = l.keys ++ keys_of (map body_of (drop l.body-index l.bodies)) ≡ keys_of (map body_of l.bodies)
