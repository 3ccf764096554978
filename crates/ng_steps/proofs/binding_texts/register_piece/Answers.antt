use Rattle.std.proofs.Common.{sym}
use Rattle.std.proofs.lemmas.List.{append-nil}
use Rattle.ng_steps.proofs.binding_texts.register_piece.Goals as goal

pub returns-in_ok-copied-in-Word-clause-serials : goal.returns-in_ok-copied-in-Word-clause-serials
returns-in_ok-copied-in-Word-clause-serials c = sym (append-nil c.args.done.now.made.serials.items)
