use Rattle.std.proofs.Common.{◌≡◌, map, drop}
use Rattle.ng_interp.specs.Parts.{piece_of, pieces_on}
use Rattle.ng_directives.proofs.texts.read_cuts.Given as goal

abbrev pub invariant-loop-cut : goal.invariant-loop-cut
invariant-loop-cut l = pieces_on l.escapes (map piece_of l.parts.items) (drop l.cut-index l.cuts) ≡ pieces_on l.escapes (map piece_of l.initial.parts.items) l.cuts
