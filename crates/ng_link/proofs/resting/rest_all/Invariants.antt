use Rattle.std.proofs.Common.{◌≡◌, List, length}
use Rattle.std.specs.Vec.Iter.{into_iter_items}
use Rattle.ng_drawing.specs.Named.{Named}
use Rattle.ng_watch.specs.Table.{watchers_of}
use Rattle.ng_link.specs.Calls.{rested}
use Rattle.ng_instances.specs.InstanceOf.{instances_of}
use Rattle.ng_link.specs.State.{resting_of}
use Rattle.ng_link.proofs.resting.rest_all.Given as goal

abbrev pub invariant-loop-key : goal.invariant-loop-key
invariant-loop-key l = (all : List Named) → rested l.inner.entries (instances_of all l.instances.entries) (watchers_of (into_iter_items l.left)) (resting_of l.resting.entries) ≡ rested l.inner.entries (instances_of all l.instances.entries) (watchers_of l.fn.rows.items) (resting_of l.fn.resting.entries)

abbrev pub decreases-loop-key : goal.decreases-loop-key
decreases-loop-key l = length (into_iter_items l.left)
