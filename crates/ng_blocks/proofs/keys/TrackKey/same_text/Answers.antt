use Rattle.ng_base.proofs.Texts.{tested}
use Rattle.ng_blocks.proofs.keys.TrackKey.same_text.Goals as goal

pub returns : goal.returns
returns c = rw (← c.text.ensures.chars, ← c.text-2.ensures.chars) (tested c.text.result.now c.text-2.result.now c.eq.result c.text.utf8 c.text-2.utf8 c.eq.ensures)
