use Rattle.std.proofs.Common.{sym, ◌∙◌}
use Rattle.ng_watch.proofs.Rows.{same_key}
use Rattle.ng_watch.proofs.places.is_of.Goals as goal

pub returns-then-eq : goal.returns-then-eq
returns-then-eq c = same_key c.args.key.now c.args.row.now.0 c.eq-then-eq.result (sym c.eq.ensures ∙ c.if-eq.true) c.eq-then-eq.ensures
