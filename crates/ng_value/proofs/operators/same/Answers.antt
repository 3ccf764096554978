use Rattle.ng_value.proofs.Sameness.{same_value_as_equal}
use Rattle.ng_value.proofs.operators.same.Goals as goal

pub returns-clause-equal : goal.returns-clause-equal
returns-clause-equal c = same_value_as_equal c.args.a.now c.args.b.now _ c.same_values.ensures
