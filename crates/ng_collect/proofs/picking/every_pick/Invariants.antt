use Rattle.std.proofs.Common.{◌≡◌, ◌++◌, drop}
use Rattle.std.specs.List.{flat_map}
use Rattle.ng_collect.specs.Picks.{picks_at}
use Rattle.ng_collect.proofs.picking.every_pick.Given as goal

abbrev pub invariant-loop-spot : goal.invariant-loop-spot
invariant-loop-spot l = l.picks.items ++ flat_map (picks_at l.defs) (drop l.spot-index l.spots) ≡ flat_map (picks_at l.defs) l.spots
