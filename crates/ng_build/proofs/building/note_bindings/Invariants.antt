use Rattle.std.proofs.Common.{◌≡◌, ◌++◌, drop, map}
use Rattle.std.specs.List.{flat_map}
use Rattle.ng_drawing.specs.Template.{Binding}
use Rattle.ng_parts.specs.ActsOf.{binding_of}
use Rattle.ng_drawing.specs.Numbering.{source_numbers}
use Rattle.ng_build.proofs.building.note_bindings.Given as goal

abbrev pub invariant-loop-binding : goal.invariant-loop-binding
invariant-loop-binding l =
    l.spots.items ++ map (λ _. l.n.made.0) (flat_map (λ (b : Binding). source_numbers b.source) (map binding_of (drop l.binding-index l.bindings)))
    ≡ l.initial.spots.items ++ map (λ _. l.n.made.0) (flat_map (λ (b : Binding). source_numbers b.source) (map binding_of l.bindings))
