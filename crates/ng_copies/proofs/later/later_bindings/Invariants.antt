use Rattle.std.proofs.Common.{◌≡◌, ◌++◌, map, drop}
use Rattle.ng_drawing.specs.Included.{later_binding}
use Rattle.ng_parts.specs.ActsOf.{binding_of}
use Rattle.ng_copies.proofs.later.later_bindings.Given as goal

abbrev pub invariant-loop-binding : goal.invariant-loop-binding
invariant-loop-binding l = map binding_of l.moved.items ++ map (later_binding l.by) (map binding_of (drop l.binding-index l.bindings)) ≡ map (later_binding l.by) (map binding_of l.bindings)
