use Rattle.std.proofs.Common.{◌≡◌, drop, map}
use Rattle.ng_instances.specs.BoundOf.{inner_of}
use Rattle.ng_instances.specs.Instances.{with_inner}
use Rattle.ng_instances.proofs.registering.note_inner.Given as goal

abbrev pub invariant-loop-one : goal.invariant-loop-one
invariant-loop-one l = with_inner l.path (map inner_of (drop l.one-index l.inner)) l.table.entries ≡ with_inner l.path (map inner_of l.inner) l.initial.table.entries
