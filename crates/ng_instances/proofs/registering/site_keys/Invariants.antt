use Rattle.std.proofs.Common.{◌≡◌, ◌++◌, drop}
use Rattle.ng_parts.specs.FragmentOf.{fragment_of}
use Rattle.ng_instances.specs.BoundOf.{ground_of}
use Rattle.ng_instances.specs.Registering.{keys_on}
use Rattle.ng_instances.proofs.registering.site_keys.Given as goal

abbrev pub invariant-loop-i : goal.invariant-loop-i
invariant-loop-i l =
    let f = fragment_of l.fragment in
    let g = ground_of l.ground in
    l.keys.items ++ keys_on l.core.scopes f g l.i (drop l.i l.serials) ≡ keys_on l.core.scopes f g 0 l.serials
