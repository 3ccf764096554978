use Rattle.std.proofs.Common.{◌≡◌, ◌++◌, Some, map}
use Rattle.std.specs.Prelude.{option_map}
use Rattle.ng_drawing.specs.Instance.{text_view}
use Rattle.ng_value.specs.Snaps.{snap_of}
use Rattle.ng_steps.proofs.binding_texts.keep_texts.Given as goal

abbrev pub invariant-loop-text : goal.invariant-loop-text
invariant-loop-text l = map (option_map snap_of) l.kept.items ++ map (λ t. Some (text_view t)) l.text-iterator.rest.items
    ≡ map (option_map snap_of) l.initial.kept.items ++ map (λ t. Some (text_view t)) l.initial.text-iterator.rest.items
