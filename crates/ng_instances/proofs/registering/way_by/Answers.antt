use Rattle.std.proofs.Common.{subst, length}
use Rattle.ng_instances.specs.Bindings.{BoundStands}
use Rattle.ng_instances.specs.BoundOf.{bound_of}
use Rattle.ng_instances.specs.declared.instances.Bound.{Bound}
use Rattle.ng_instances.proofs.registering.way_by.Goals as goal

pub object-requires : goal.object-requires
object-requires c = (subst (λ (b : Bound). BoundStands (length c.args.core.now.scopes) (bound_of b)) c.in-TwoWay.is c.requires).0
