use Rattle.std.proofs.Common.{◌≡◌, ◌++◌, drop}
use Rattle.ng_dom.specs.Drawing.{joined}
use Rattle.ng_build.specs.Building.{unset}
use Rattle.ng_build.proofs.copying.unset_text.Given as goal

abbrev pub invariant-loop-piece : goal.invariant-loop-piece
invariant-loop-piece l = l.text ++ joined unset (drop l.piece-index l.pieces) ≡ joined unset l.pieces
