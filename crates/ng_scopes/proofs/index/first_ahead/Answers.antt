use Rattle.std.proofs.Common.{sym, ◌∙◌}
use Rattle.std.specs.BTreeMap.{get}
use Rattle.ng_base.specs.Order.{path_cmp}
use Rattle.ng_behaviour.proofs.Paths.{begins-itself, begins-after}
use Rattle.ng_scopes.proofs.Ahead.{not-less, less-is, from-below}
use Rattle.ng_scopes.proofs.index.first_ahead.Goals as goal

pub first_from-requires : goal.first_from-requires
first_from-requires c = begins-after c.args.under.now c.args.under.now (begins-itself c.args.under.now)

pub first_above-requires : goal.first_above-requires
first_above-requires c = not-less c.args.p.now c.args.under.now (sym c.lt.ensures ∙ c.if-lt.false)

pub returns-then-lt : goal.returns-then-lt
returns-then-lt c = from-below (get path_cmp c.args.index.now) c.args.p.now c.args.under.now c.first_from.result (less-is (path_cmp c.args.p.now c.args.under.now) (sym c.lt.ensures ∙ c.if-lt.true)) c.first_from.ensures
