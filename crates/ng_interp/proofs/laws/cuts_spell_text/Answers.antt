use Rattle.ng_interp.proofs.CutSteps.{cuts_spell_text}
use Rattle.ng_interp.proofs.laws.cuts_spell_text.Goals as goal

pub returns : goal.returns
returns c = cuts_spell_text
