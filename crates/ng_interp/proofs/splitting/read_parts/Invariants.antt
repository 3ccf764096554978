use Rattle.std.proofs.Common.{◌≡◌, [], drop}
use Rattle.ng_interp.specs.Parts.{pieces_of, pieces_on}
use Rattle.ng_interp.proofs.splitting.read_parts.Given as goal

abbrev pub invariant-loop-cut : goal.invariant-loop-cut
invariant-loop-cut l = pieces_on l.escapes (pieces_of l.parts) (drop l.cut-index l.cuts) ≡ pieces_on l.escapes [] l.cuts
