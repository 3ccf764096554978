use Rattle.ng_page.proofs.Lasting.{steps_last}
use Rattle.ng_page.proofs.laws.no_step_changes_a_template.Goals as goal

pub returns : goal.returns
returns c = (λ a s o t h. (steps_last.0 a s o t h).templates, λ x n s os t h. (steps_last.1 x n s os t h).templates)
