use Rattle.std.proofs.Common.{◌≡◌, drop}
use Rattle.std.specs.List.{list_any}
use Rattle.ng_collect.specs.Refused.{is_model}
use Rattle.ng_collect.proofs.refusing.any_model.Given as goal

abbrev pub invariant-loop-spot : goal.invariant-loop-spot
invariant-loop-spot l = list_any is_model (drop l.spot-index l.spots) ≡ list_any is_model l.spots
