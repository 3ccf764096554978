use Rattle.std.proofs.Common.{◌≡◌, ◌++◌, map, drop}
use Rattle.ng_parts.specs.ActsOf.{binding_of}
use Rattle.ng_drawing.specs.Moved.{moved_by, moved_binding}
use Rattle.ng_copies.proofs.moving.moved_bindings.Given as goal

abbrev pub invariant-loop-binding : goal.invariant-loop-binding
invariant-loop-binding l = map binding_of l.all.items ++ map (moved_binding (moved_by l.moved)) (map binding_of (drop l.binding-index l.bindings)) ≡ map (moved_binding (moved_by l.moved)) (map binding_of l.bindings)
