use Rattle.std.proofs.Common.{length}
use Rattle.ng_members.proofs.calls.method_value.Goals as goal

pub returns-in-Slice-clause-stands : goal.returns-in-Slice-clause-stands
returns-in-Slice-clause-stands c = c.list_view.ensures.stands (length c.args.store.now) c.in_ok-slice-in-Slice.ensures.stands

pub returns-in-Concat-clause-stands : goal.returns-in-Concat-clause-stands
returns-in-Concat-clause-stands c = c.list_view-in-Concat.ensures.stands (length c.args.store.now) c.in_ok-concat-in-Concat.ensures.stands
