use Rattle.std.proofs.Common.{◌≡◌, ◌++◌, drop, map}
use Rattle.ng_drawing.specs.Template.{Binding}
use Rattle.ng_parts.specs.ActsOf.{binding_of}
use Rattle.ng_build.specs.Linking.{binds}
use Rattle.ng_build.specs.StepOf.{step_of}
use Rattle.ng_build.proofs.ordering.add_bindings.Given as goal

abbrev pub invariant-loop-binding : goal.invariant-loop-binding
invariant-loop-binding l =
    let bound = λ (b : Binding). binds b l.isolate l.over in
    map step_of l.order.items ++ map bound (map binding_of (drop l.binding-index l.bindings)) ≡ map step_of l.initial.order.items ++ map bound (map binding_of l.bindings)
