use Rattle.std.proofs.Common.{◌≡◌, ◌≤◌, map, drop, length}
use Rattle.ng_base.specs.ViewOf.{view_of}
use Rattle.ng_core.specs.Calling.{bound_from}
use Rattle.ng_core.proofs.binding.bound.Given as goal

abbrev pub invariant-loop-i : goal.invariant-loop-i
invariant-loop-i l = record {
  within : l.i ≤ length l.names;
  same : l.locals ≡ bound_from l.i (drop l.i l.names) (map view_of l.given);
}

abbrev pub decreases-loop-i : goal.decreases-loop-i
decreases-loop-i l = l.i
