use Rattle.std.proofs.Common.{◌≡◌, drop}
use Rattle.std.specs.List.{list_any}
use Rattle.ng_collect.specs.Spots.{is_left_out_at}
use Rattle.ng_collect.proofs.refusing.any_left_out.Given as goal

abbrev pub invariant-loop-spot : goal.invariant-loop-spot
invariant-loop-spot l = list_any is_left_out_at (drop l.spot-index l.spots) ≡ list_any is_left_out_at l.spots
