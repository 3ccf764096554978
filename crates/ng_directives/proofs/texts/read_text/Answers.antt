use Rattle.ng_interp.specs.Parts.{pieces_in}
use Rattle.ng_directives.proofs.texts.read_text.Goals as goal

pub returns-clause-parts : goal.returns-clause-parts
returns-clause-parts c = c.judged_parts.ensures.parts (pieces_in c.args.text.now) c.read_pieces.ensures
