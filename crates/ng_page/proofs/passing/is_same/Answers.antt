use Rattle.std.proofs.Common.{sym, ◌∙◌}
use Rattle.ng_watch.proofs.Rows.{same_key}
use Rattle.ng_page.proofs.passing.is_same.Goals as goal

pub returns-then-eq : goal.returns-then-eq
returns-then-eq c = same_key c.args.last.now c.args.key.now c.eq-then-eq.result (sym c.eq.ensures ∙ c.if-eq.true) c.eq-then-eq.ensures
