use Rattle.std.proofs.Common.{◌≡◌, ◌++◌, drop, map}
use Rattle.ng_drawing.specs.Template.{OutletScope}
use Rattle.ng_parts.specs.FragmentOf.{spot_of}
use Rattle.ng_instances.proofs.linking.outlet_scopes.Given as goal

abbrev pub invariant-loop-spot : goal.invariant-loop-spot
invariant-loop-spot l = l.scopes.items ++ map (λ (s : OutletScope). s.scope) (map spot_of (drop l.spot-index l.spots)) ≡ map (λ (s : OutletScope). s.scope) (map spot_of l.spots)
