use Rattle.std.proofs.Common.{◌≡◌, ◌++◌, drop}
use Rattle.ng_dom.specs.Drawing.{joined}
use Rattle.ng_link.specs.State.{state_of, looks_in}
use Rattle.ng_link.proofs.looks.joined_text.Given as goal

abbrev pub invariant-loop-piece : goal.invariant-loop-piece
invariant-loop-piece l = l.text ++ joined (looks_in (state_of l.works)) (drop l.piece-index l.pieces) ≡ joined (looks_in (state_of l.works)) l.pieces
