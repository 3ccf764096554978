use Rattle.std.proofs.Common.{ap, not}
use Rattle.ng_value.specs.Snaps.{snap_of}
use Rattle.ng_value.proofs.Sameness.{differs_as_unequal}
use Rattle.ng_value.proofs.snapshot.differs.Goals as goal

pub returns-clause-unequal : goal.returns-clause-unequal
returns-clause-unequal c = differs_as_unequal (snap_of c.args.a.now) (snap_of c.args.b.now) _ (ap not c.same_view.ensures)
