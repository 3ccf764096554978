use Rattle.std.proofs.Common.{◌∙◌, ◌++◌, ℕ, List, ap}
use Rattle.std.specs.Str.{chars}
use Rattle.ng_base.proofs.Ascii.{chars-word}
use Rattle.ng_rows.proofs.rows.text_of.Goals as goal

pub returns : goal.returns
returns c = λ is. c.in_ok-push_str.ensures.ok ∙ (ap (λ (t : List ℕ). t ++ chars c.args.word.now) c.new-text.ensures ∙ chars-word c.args.word.now is)
