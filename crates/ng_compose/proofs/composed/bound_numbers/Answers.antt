use Rattle.std.proofs.Common.{◌∙◌}
use Rattle.ng_drawing.specs.Template.{Binding}
use Rattle.ng_parts.specs.ActsOf.{binding_of}
use Rattle.ng_drawing.specs.Numbering.{source_numbers}
use Rattle.ng_compose.proofs.ComposingTurns.{flat_turn}
use Rattle.ng_compose.proofs.composed.bound_numbers.Goals as goal

pub loop-binding-preserved : goal.loop-binding-preserved
loop-binding-preserved c =
    flat_turn binding_of (λ (b : Binding). source_numbers b.source) c.args.bindings.now c.loop-binding.binding-index c.binding-item.result c.loop-binding.numbers.items c.add_source.new.numbers.items c.loop-binding-test.true c.binding-item.is c.in_ok-add_source.ensures
    ∙ c.loop-binding.invariant
