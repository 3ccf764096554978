-- The text of a binding that is set.
use Rattle.std.proofs.Common.{◌≡◌, ℕ, List, Option, Ok, ap, Result}
use Rattle.ng_base.specs.declared.fault.Fault.{Fault}
use Rattle.ng_base.specs.declared.value.Value.TheVariants as value
use Rattle.ng_core.specs.State as act
use Rattle.ng_core.specs.State.{Run}
use Rattle.ng_drawing.specs.Template.{Piece, Site}
use Rattle.ng_steps.specs.LinkBindings.{joined_with, set_on, set_to_text, shown_over, text_set}

-- a text with holes
pub set_text_is : (scope : ℕ) (name : List ℕ) (over : ℕ) (site : ℕ → Option Site) (ps : List Piece) (c : act.State) (ts : List (List ℕ)) → shown_over over site ps c ≡ Ok ts → (let r : Run (List (List ℕ)) = (set_on scope name (value.Text (joined_with ps ts)) c, Ok ts) in set_to_text scope name over site ps c ≡ r)
set_text_is scope name over site ps c ts shown = ap (λ (o : Result (List (List ℕ)) Fault). text_set scope name ps o c) shown
