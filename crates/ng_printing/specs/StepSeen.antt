-- What the lines of a step in the code stand for.
use Rattle.ng_printing.specs.Left.{Step}
use Rattle.ng_printing.specs.declared.reply.Lines.{Lines}

abbrev pub step_seen : Lines → Step
step_seen l = record { lines = l.piece.items; well = l.well }
