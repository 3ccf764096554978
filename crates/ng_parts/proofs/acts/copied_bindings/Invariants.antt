use Rattle.std.proofs.Common.{◌≡◌, ◌++◌, map, drop}
use Rattle.ng_parts.specs.ActsOf.{binding_of}
use Rattle.ng_parts.proofs.acts.copied_bindings.Given as goal

abbrev pub invariant-loop-binding : goal.invariant-loop-binding
invariant-loop-binding l = map binding_of l.copies.items ++ map binding_of (drop l.binding-index l.bindings) ≡ map binding_of l.bindings
