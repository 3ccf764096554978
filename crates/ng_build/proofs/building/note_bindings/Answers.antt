use Rattle.std.proofs.Common.{◌+◌, ◌++◌, ℕ, List, ap, sym, ◌∙◌, drop, map, append_assoc}
use Rattle.std.specs.List.{flat_map}
use Rattle.std.proofs.lemmas.List.{map-append}
use Rattle.ng_drawing.specs.Template.{Binding}
use Rattle.ng_parts.specs.ActsOf.{binding_of}
use Rattle.ng_drawing.specs.Numbering.{source_numbers}
use Rattle.ng_build.proofs.Loops.{next_seen}
use Rattle.ng_build.proofs.building.note_bindings.Goals as goal

pub loop-binding-preserved : goal.loop-binding-preserved
loop-binding-preserved c =
    let bs = c.args.bindings.now in
    let i = c.loop-binding.binding-index in
    let b = c.binding-item.result in
    let before : List ℕ = c.loop-binding.spots.items in
    let node : ℕ → ℕ = λ _. c.args.n.made.0 in
    let numbers : Binding → List ℕ = λ a. source_numbers a.source in
    let more : List Binding = map binding_of (drop (i + 1) bs) in
    let rest : List ℕ = map node (flat_map numbers more) in
    let here : List ℕ = numbers (binding_of b) in
    ap (λ (ns : List ℕ). ns ++ rest) c.in_ok-note_source.ensures
    ∙ (append_assoc before (map node here) rest
    ∙ (ap (λ (ns : List ℕ). before ++ ns) (sym (map-append node here (flat_map numbers more)))
    ∙ (sym (ap (λ (xs : List Binding). before ++ map node (flat_map numbers xs)) (next_seen binding_of bs i b c.loop-binding-test.true c.binding-item.is)) ∙ c.loop-binding.invariant)))
