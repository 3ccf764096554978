use Rattle.std.proofs.Common.{◌≡◌, ◌++◌, map, drop, length}
use Rattle.ng_members.specs.Leaves.{LocalsStand}
use Rattle.ng_core.specs.Calling.{name_bound}
use Rattle.ng_core.proofs.binding.names_bound_of.Given as goal

abbrev pub invariant-loop-name : goal.invariant-loop-name
invariant-loop-name l = record {
  same : l.locals ++ map (name_bound l.store l.o.0) (drop l.name-index l.names) ≡ map (name_bound l.store l.o.0) l.names;
  stands : LocalsStand (length l.store) l.locals;
}
