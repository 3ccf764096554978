use Rattle.std.proofs.Common.{◌∙◌}
use Rattle.ng_script.proofs.SameWords.{same_event}
use Rattle.ng_script.proofs.verbs.is_event.Goals as goal

pub returns : goal.returns
returns c = c.names_event.ensures ∙ same_event c.args.word.now c.utf8.word
