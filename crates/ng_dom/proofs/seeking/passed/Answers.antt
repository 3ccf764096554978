use Rattle.std.proofs.Common.{arith, sym, ◌∙◌}
use Rattle.ng_dom.proofs.Standing.{left-seek, past-seek}
use Rattle.ng_dom.proofs.seeking.passed.Goals as goal

pub returns-in-Found : goal.returns-in-Found
returns-in-Found c = λ xs e. let h = past-seek 4294967295 xs _ _ (sym e ∙ c.in-Found.is) in omega arith

pub returns-in-Left : goal.returns-in-Left
returns-in-Left c = λ xs e. let h = left-seek 4294967295 xs _ (sym e ∙ c.in-Left.is) in omega arith
