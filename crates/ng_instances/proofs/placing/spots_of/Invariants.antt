use Rattle.std.proofs.Common.{◌≡◌, [], drop}
use Rattle.ng_instances.specs.Rows.{spots_by}
use Rattle.ng_instances.proofs.placing.spots_of.Given as goal

abbrev pub invariant-loop-serial : goal.invariant-loop-serial
invariant-loop-serial l = spots_by (drop l.serial-index l.serials) l.left l.spots.entries ≡ spots_by l.serials l.fn.nodes []
