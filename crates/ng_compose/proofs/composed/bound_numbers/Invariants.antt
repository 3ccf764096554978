use Rattle.std.proofs.Common.{◌≡◌, ◌++◌, map, drop}
use Rattle.std.specs.List.{flat_map}
use Rattle.ng_drawing.specs.Template.{Binding}
use Rattle.ng_parts.specs.ActsOf.{binding_of}
use Rattle.ng_drawing.specs.Numbering.{source_numbers}
use Rattle.ng_compose.proofs.composed.bound_numbers.Given as goal

abbrev pub invariant-loop-binding : goal.invariant-loop-binding
invariant-loop-binding l =
    l.numbers.items ++ flat_map (λ (b : Binding). source_numbers b.source) (map binding_of (drop l.binding-index l.bindings)) ≡ flat_map (λ (b : Binding). source_numbers b.source) (map binding_of l.bindings)
