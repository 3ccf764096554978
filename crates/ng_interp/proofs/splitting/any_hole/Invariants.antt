use Rattle.std.proofs.Common.{◌≡◌, drop}
use Rattle.ng_interp.specs.Parts.{has_hole}
use Rattle.ng_interp.proofs.splitting.any_hole.Given as goal

abbrev pub invariant-loop-cut : goal.invariant-loop-cut
invariant-loop-cut l = has_hole (drop l.cut-index l.cuts) ≡ has_hole l.cuts
