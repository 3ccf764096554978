use Rattle.ng_base.proofs.Ascii.{chars-word}
use Rattle.ng_base.proofs.Texts.{tested}
use Rattle.ng_write.proofs.facts.is_name.Goals as goal

pub returns : goal.returns
returns c = rw (← chars-word c.args.word.now c.requires) (tested c.args.name.now c.args.word.now c.eq.result c.utf8.name c.utf8.word c.eq.ensures)
