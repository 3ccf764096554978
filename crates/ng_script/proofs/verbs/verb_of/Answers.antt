use Rattle.std.proofs.Common.{◌∙◌}
use Rattle.ng_script.proofs.SameWords.{same_verb}
use Rattle.ng_script.proofs.verbs.verb_of.Goals as goal

pub returns : goal.returns
returns c = c.named_verb.ensures ∙ same_verb c.args.word.now c.utf8.word
