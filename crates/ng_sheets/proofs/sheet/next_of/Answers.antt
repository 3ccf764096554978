use Rattle.std.proofs.Common.{◌∙◌, sym, ap}
use Rattle.ng_sheets.specs.Board.{view}
use Rattle.ng_digest.specs.Machine.{next_key}
use Rattle.ng_sheets.specs.Sheet.{board_machine}
use Rattle.ng_sheets.proofs.BoardKeys.{sorted_live, next_from_first, next_from_key}
use Rattle.ng_sheets.proofs.sheet.next_of.Goals as goal

pub returns-in-None : goal.returns-in-None
returns-in-None c = record {
  next = c.next_live.ensures ∙ sym (next_from_first c.args.board.now.watches.items) ∙ ap (next_key board_machine (view c.args.board.now)) (sym c.in-None.is);
  sorted = sorted_live 0 c.args.board.now.watches.items;
}

pub returns-in-Some : goal.returns-in-Some
returns-in-Some c = record {
  next = c.next_above.ensures ∙ sym (next_from_key c.in-Some.key c.args.board.now.watches.items) ∙ ap (next_key board_machine (view c.args.board.now)) (sym c.in-Some.is);
  sorted = sorted_live 0 c.args.board.now.watches.items;
}
