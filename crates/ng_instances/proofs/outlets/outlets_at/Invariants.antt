use Rattle.std.proofs.Common.{◌≡◌, ◌++◌, drop, map}
use Rattle.ng_parts.specs.FragmentOf.{fragment_of}
use Rattle.ng_instances.specs.BoundOf.{ground_of}
use Rattle.ng_instances.specs.Changing.{outlets_from, outlets_on}
use Rattle.ng_instances.specs.InstanceOf.{outlet_of}
use Rattle.ng_instances.proofs.outlets.outlets_at.Given as goal

abbrev pub invariant-loop-i : goal.invariant-loop-i
invariant-loop-i l =
    let f = fragment_of l.fragment in
    let g = ground_of l.ground in
    map outlet_of l.made.items ++ outlets_from l.origin g l.serials f l.i (drop l.i f.outlets) l.left ≡ outlets_on l.origin g l.serials f l.fn.names
