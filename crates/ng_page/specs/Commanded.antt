-- What a call of a command answers, and what it leaves of a page.
use Rattle.std.specs.Prelude.{◌≡◌, ◌↔◌, Bool, true, false, Option, Some, None, Result, Ok, Err, IsOk, IfOk, IfErr}
use Rattle.ng_drawing.specs.Drawing.{shown_as}
use Rattle.ng_base.specs.declared.fault.Memory.{Memory as Wanted}
use Rattle.ng_link.specs.State as link
use Rattle.ng_link.specs.State.{shown, rendering}
use Rattle.ng_page.specs.Answered.{WhenOk}
use Rattle.ng_page.specs.Causes.{HasCause}
use Rattle.ng_commands.specs.Commands.{Asked, is_idle}
use Rattle.ng_page.specs.OutcomeOf.{outcome_of}
use Rattle.ng_page.specs.PageOf.{state_of, IsPage, Displays}
use Rattle.ng_commands.specs.Settled.{IsSettled}
use Rattle.ng_page.specs.Steps.{Ends, EndsShort, Steps, StepsShort}
use Rattle.ng_page.specs.declared.outcome.Outcome.{Outcome}
use Rattle.ng_page.specs.declared.outcome.PageFault.{PageFault}
use Rattle.ng_page.specs.declared.outcome.PageFault.TheVariants.{Idle, Spent, Memory}
use Rattle.ng_page.specs.declared.page.Page.{Page}

-- why a command is refused: the page is spent, or nothing is to be done
abbrev pub refusal : Bool → Bool → Option PageFault
refusal true idle = Some Spent
refusal false true = Some Idle
refusal false false = None

-- after Idle and Spent a page is as before; after want of memory it is spent
abbrev pub LeavesBehind : Result Outcome PageFault → Page → Page → Type 0
LeavesBehind (Ok o) old new = new.spent ≡ false
LeavesBehind (Err Idle) old new = new ≡ old
LeavesBehind (Err Spent) old new = new ≡ old
LeavesBehind (Err (Memory m)) old new = new.spent ≡ true

abbrev pub IsLeft : Result Outcome PageFault → Page → Type 0
IsLeft (Ok o) new = new.spent ≡ false
IsLeft (Err Idle) new = ⊥
IsLeft (Err Spent) new = ⊥
IsLeft (Err (Memory m)) new = new.spent ≡ true

-- The end of a command from what its program left: the answer is an outcome, or memory was wanted.
pub record Ended (ran : Result (Unit {0}) Wanted) (s : link.State) (result : Result Outcome PageFault) (new : Page) : Type 0 where
  pub left : IsLeft result new
  pub finished : IfOk result (λ o. IsOk ran)
  pub step : IfOk result (λ o. Ends s (outcome_of o) (state_of new))
  pub report : IfOk result (λ o. EndsShort s o.digest (state_of new))
  pub displays : IfOk result (λ o. Displays new (shown (state_of new)))
  pub settled : IfOk result (λ o. WhenOk o.digest (IsSettled (state_of new)))
  pub renders : IfOk result (λ o. WhenOk o.digest (rendering (state_of new) ≡ shown_as (shown (state_of new))))
  pub page : IsPage new
  pub worn : IfErr result (HasCause new)

pub record Commanded (a : Asked) (old : Page) (result : Result Outcome PageFault) (new : Page) : Type 0 where
  -- Spent exactly where an earlier call wanted memory
  pub spent : (result ≡ Err Spent) ↔ (old.spent ≡ true)
  -- Idle exactly where nothing is to be done
  pub idle : old.spent ≡ false → (result ≡ Err Idle) ↔ (is_idle a (state_of old) ≡ true)
  pub left : LeavesBehind result old new
  -- the step is the plain machine's, and its counts are those of the digest that stops early
  pub step : IfOk result (λ o. Steps a (state_of old) (outcome_of o) (state_of new))
  pub report : IfOk result (λ o. StepsShort a (state_of old) o.digest (state_of new))
  -- the document is what the sites have kept
  pub displays : IfOk result (λ o. Displays new (shown (state_of new)))
  -- after a digest that answered Ok no watcher is dirty, and the document is the rendering
  pub settled : IfOk result (λ o. WhenOk o.digest (IsSettled (state_of new)))
  pub renders : IfOk result (λ o. WhenOk o.digest (rendering (state_of new) ≡ shown_as (shown (state_of new))))
  pub page : IsPage new
  -- that a counter stands at its last value is told only where one does
  pub worn : IfErr result (HasCause new)
