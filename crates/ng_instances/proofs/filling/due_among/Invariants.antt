use Rattle.std.proofs.Common.{◌≡◌, ◌++◌, drop, map}
use Rattle.ng_instances.specs.Due.{due_of, due_from, without_rows}
use Rattle.ng_instances.specs.InstanceOf.{outlet_of}
use Rattle.ng_instances.proofs.filling.due_among.Given as goal

abbrev pub invariant-loop-i : goal.invariant-loop-i
invariant-loop-i l = map due_of l.all.items ++ map without_rows (due_from l.serial l.i (map outlet_of (drop l.i l.outlets))) ≡ map without_rows (due_from l.serial 0 (map outlet_of l.outlets))
