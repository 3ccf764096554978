use Rattle.std.proofs.Common.{◌≡◌, ◌-◌, drop, length, map}
use Rattle.ng_instances.specs.InstanceOf.{body_of}
use Rattle.ng_rows.specs.RepeatRows.{keys_of}
use Rattle.ng_rows.proofs.splicing.is_end.Given as goal

abbrev pub invariant-loop-behind : goal.invariant-loop-behind
invariant-loop-behind l = drop (length l.bodies - l.behind) (keys_of (map body_of l.bodies)) ≡ drop (length l.keys - l.behind) l.keys
