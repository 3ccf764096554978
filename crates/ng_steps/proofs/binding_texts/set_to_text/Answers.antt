use Rattle.std.proofs.Common.{◌∙◌, ℕ, List, ap, slice_get, sym}
use Rattle.std.specs.Prelude.{Ok, Result}
use Rattle.ng_act.proofs.Parts.{acts_err}
use Rattle.ng_base.specs.declared.fault.Fault.{Fault}
use Rattle.ng_base.specs.declared.value.Value.TheVariants as value
use Rattle.ng_core.specs.Frames as cores
use Rattle.ng_core.specs.State as act
use Rattle.ng_core.specs.State.{Run}
use Rattle.ng_steps.proofs.SetTexts.{set_text_is}
use Rattle.ng_steps.specs.LinkBindings.{joined_with, set_on, text_set}
use Rattle.ng_link.specs.State.{State}
use Rattle.ng_steps.proofs.binding_texts.set_to_text.Goals as goal

pub returns-clause-run : goal.returns-clause-run
returns-clause-run c = λ xs same.
    let s = cores.state_of c.args.works.now.core in
    let scope : ℕ = c.args.scope.0 in
    let name : List ℕ = c.args.name.now in
    let ts : List (List ℕ) = c.in_ok-shown.shown.items in
    set_text_is scope name c.args.over.0 (slice_get xs) c.args.pieces.now s ts (c.in_ok-shown.ensures xs same)
    ∙ ap (λ (k : act.State). (let r : Run (List (List ℕ)) = (k, Ok ts) in r))
    (sym (ap (λ (t : State). t.core) c.in_ok-set_name.ensures.state
    ∙ ap (λ (t : List ℕ). set_on scope name (value.Text t) s) (c.in_ok-text.ensures ∙ ap (joined_with c.args.pieces.now) c.as_slice.ensures.value)))

pub returns-in_err-shown-clause-run : goal.returns-in_err-shown-clause-run
returns-in_err-shown-clause-run c = λ xs same.
    let s = cores.state_of c.args.works.now.core in
    acts_err _ c.from_residual.result c.in_err-shown.field-0.0 s _ c.from_residual.ensures.1
    (λ free. ap (λ (o : Result (List (List ℕ)) Fault). text_set c.args.scope.0 c.args.name.now c.args.pieces.now o s) (c.in_err-shown.ensures xs same free))
