use Rattle.std.proofs.Common.{◌≡◌, drop}
use Rattle.ng_steps.specs.Links.{bounds_noted}
use Rattle.ng_instances.specs.BoundOf.{bound_of, bounds_of}
use Rattle.ng_steps.proofs.binding_texts.note_all.Given as goal

abbrev pub invariant-loop-i : goal.invariant-loop-i
invariant-loop-i l = bounds_noted (drop l.i l.serials) (bound_of l.bound) (bounds_of l.bounds.entries) ≡ bounds_noted (drop l.first l.serials) (bound_of l.bound) (bounds_of l.initial.bounds.entries)
