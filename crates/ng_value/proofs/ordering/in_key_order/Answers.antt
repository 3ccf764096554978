use Rattle.std.proofs.Common.{◌∙◌, refl}
use Rattle.ng_value.proofs.Orders.{values-indexed}
use Rattle.ng_value.proofs.ordering.in_key_order.Goals as goal

pub returns-clause-fields : goal.returns-clause-fields
returns-clause-fields c =
    c.in_ok-add_fields.ensures.added
    ∙ rw (c.in_ok-done.ensures.fields, values-indexed, c.in_ok-split.ensures.indexed, c.in_ok-split.ensures.others) refl
