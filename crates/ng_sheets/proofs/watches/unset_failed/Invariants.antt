use Rattle.std.proofs.Common.{◌≡◌, drop}
use Rattle.ng_sheets.specs.Board.{view, unset_each}
use Rattle.ng_sheets.proofs.watches.unset_failed.Given as goal

abbrev pub invariant-loop-i : goal.invariant-loop-i
invariant-loop-i l = record {
  same : view l.board ≡ record (view l.fn.board) { watches = l.board.watches.items };
  left : unset_each (drop l.i l.board.failed.items) l.board.watches.items ≡ unset_each l.fn.board.failed.items l.fn.board.watches.items;
}
