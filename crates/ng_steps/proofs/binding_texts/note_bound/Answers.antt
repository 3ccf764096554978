use Rattle.std.proofs.Common.{◌∙◌, ℕ, List, ap, drop}
use Rattle.ng_changes.proofs.Answered.{ok_then}
use Rattle.ng_steps.specs.Links.{bounds_noted}
use Rattle.ng_instances.specs.Bindings.{Bounds}
use Rattle.ng_instances.specs.BoundOf.{bound_of, registered_of}
use Rattle.ng_instances.specs.Registering.{Registered}
use Rattle.ng_steps.proofs.binding_texts.note_bound.Goals as goal

pub returns-clause-noted : goal.returns-clause-noted
returns-clause-noted c =
    let r : Registered = registered_of c.args.made.now in
    ok_then c.note_all.result c.note_all.ensures
    (λ noted. ap (λ (t : Bounds). record r { bounds = t }) (noted ∙ ap (λ (ns : List ℕ). bounds_noted (drop c.args.first ns) (bound_of c.args.bound.now) r.bounds) c.as_slice.ensures.value))
