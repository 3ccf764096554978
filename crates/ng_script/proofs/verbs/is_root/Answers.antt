use Rattle.std.proofs.Common.{◌∙◌, codes, refl}
use Rattle.ng_script.proofs.SameWords.{same_word}
use Rattle.ng_script.proofs.verbs.is_root.Goals as goal

pub returns : goal.returns
returns c = c.eq.ensures ∙ same_word c.args.word.now (codes "root") c.utf8.word refl
