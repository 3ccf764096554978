-- The step of a command that fires an event of the document: the lines of each handler, and then the document.
use Rattle.std.specs.Prelude.{ℕ, ◌≡◌, Bool, List, [], ◌∷◌, Option, None, Some, option_map}
use Rattle.ng_digest.specs.Early.{plain_answer}
use Rattle.ng_link.specs.State.{State, rendering}
use Rattle.ng_commands.specs.Handling.{Happening}
use Rattle.ng_page.specs.Dispatch.{Told, Dispatches, last_digest}
use Rattle.ng_printing.specs.Left.{Left, Step, is_digested, idle_step, aimless_step, same_page}
use Rattle.ng_printing.specs.EventStep.{event_step}

abbrev pub left_after : List Told → State → Left
left_after os t = record { state = t; digested = is_digested (option_map plain_answer (last_digest os)) }

-- where no handler ran nothing was done
abbrev pub HasTold : Bool → List ℕ → List Told → State → Step → Left → Type 0
HasTold trace head [] t step left = (step ≡ idle_step head) × (left ≡ same_page t)
HasTold trace head (o ∷ os) t step left = (step ≡ event_step trace head (o ∷ os) (rendering t)) × (left ≡ left_after (o ∷ os) t)

-- an event is dispatched at an element, where one stands at the target
abbrev pub DoesEvent : Bool → List ℕ → Happening → Option ℕ → State → Step → Left → Type 0
DoesEvent trace head x None s step left = (step ≡ aimless_step head) × (left ≡ same_page s)
DoesEvent trace head x (Some n) s step left = (os : List Told) × (t : State) × Dispatches x n s os t × HasTold trace head os t step left
