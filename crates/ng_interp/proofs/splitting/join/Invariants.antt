use Rattle.std.proofs.Common.{◌≡◌, ◌++◌, map, drop}
use Rattle.ng_interp.specs.Parts.{piece_of, joined}
use Rattle.ng_interp.proofs.splitting.join.Given as goal

abbrev pub invariant-loop-part : goal.invariant-loop-part
invariant-loop-part l = l.text ++ joined (map piece_of (drop l.part-index l.part-items)) l.rest ≡ joined (map piece_of l.part-items) l.shown
