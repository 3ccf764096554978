use Rattle.std.proofs.Common.{◌≡◌, drop}
use Rattle.ng_sheets.specs.Board.{first_live}
use Rattle.ng_sheets.proofs.watches.next_live.Given as goal

abbrev pub invariant-loop-key : goal.invariant-loop-key
invariant-loop-key l = first_live l.key (drop l.key l.board.watches.items) ≡ first_live l.fn.from (drop l.fn.from l.board.watches.items)
