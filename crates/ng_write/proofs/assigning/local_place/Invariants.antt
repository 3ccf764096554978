use Rattle.std.proofs.Common.{◌≡◌, drop}
use Rattle.ng_write.specs.Assigning.{place_among}
use Rattle.ng_write.proofs.assigning.local_place.Given as goal

abbrev pub invariant-loop-i : goal.invariant-loop-i
invariant-loop-i l = place_among l.name l.i (drop l.i l.locals) ≡ place_among l.name 0 l.locals
