use Rattle.std.proofs.Common.{◌≡◌, drop, map}
use Rattle.ng_instances.specs.Changing.{fills_any}
use Rattle.ng_instances.specs.InstanceOf.{outlet_of}
use Rattle.ng_instances.proofs.declaring.fills_any.Given as goal

abbrev pub invariant-loop-outlet : goal.invariant-loop-outlet
invariant-loop-outlet l = fills_any l.serial (map outlet_of (drop l.outlet-index l.outlets)) ≡ fills_any l.serial (map outlet_of l.outlets)
