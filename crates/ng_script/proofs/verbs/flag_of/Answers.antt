use Rattle.std.proofs.Common.{◌∙◌}
use Rattle.ng_script.proofs.SameWords.{same_flag}
use Rattle.ng_script.proofs.verbs.flag_of.Goals as goal

pub returns : goal.returns
returns c = c.named_flag.ensures ∙ same_flag c.args.word.now c.utf8.word
