use Rattle.std.proofs.Common.{ap}
use Rattle.ng_changes.proofs.Answered.{ok_then}
use Rattle.ng_instances.specs.Bindings.{Bounds}
use Rattle.ng_instances.specs.BoundOf.{registered_of}
use Rattle.ng_instances.specs.Registering.{Registered}
use Rattle.ng_steps.proofs.binding.note.Goals as goal

pub returns-clause-noted : goal.returns-clause-noted
returns-clause-noted c =
    let r : Registered = registered_of c.args.made.now in
    ok_then c.note_in.result c.note_in.ensures (λ noted. ap (λ (t : Bounds). record r { bounds = t }) noted)
