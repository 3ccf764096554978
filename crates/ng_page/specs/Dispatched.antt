-- What the call that dispatches an event answers, and what it leaves of a page.
use Rattle.std.specs.Prelude.{ℕ, ◌≡◌, ◌<◌, ◌↔◌, true, false, List, [], length, map, Option, None, Some, Result, Ok, Err, IfOk, IfErr}
use Rattle.ng_digest.specs.declared.log.Report.{Report}
use Rattle.ng_digest.specs.declared.rounds.DigestFault.{DigestFault}
use Rattle.ng_drawing.specs.Drawing.{shown_as}
use Rattle.ng_link.specs.State.{shown, rendering}
use Rattle.ng_page.specs.Answered.{WhenOk}
use Rattle.ng_commands.specs.Handling.{Happening}
use Rattle.ng_page.specs.Causes.{HasCause}
use Rattle.ng_page.specs.Dispatch.{Told, Dispatches, last_digest}
use Rattle.ng_page.specs.PageOf.{state_of, IsPage, Displays}
use Rattle.ng_commands.specs.Settled.{IsSettled}
use Rattle.ng_page.specs.declared.outcome.Outcome.{Outcome}
use Rattle.ng_page.specs.declared.outcome.PageFault.{PageFault}
use Rattle.ng_page.specs.declared.outcome.PageFault.TheVariants.{Idle, Spent, Memory}
use Rattle.ng_page.specs.declared.page.Page.{Page}

abbrev pub told_of : Outcome → Told
told_of o = record { count = o.faults; first = o.first; digest = o.digest; probed = o.probed }

abbrev pub told_all : List Outcome → List Told
told_all os = map told_of os

-- after Idle and Spent a page is as before; after want of memory it is spent
abbrev pub Leaves : Result (List Outcome) PageFault → Page → Page → Type 0
Leaves (Ok os) old new = new.spent ≡ false
Leaves (Err Idle) old new = new ≡ old
Leaves (Err Spent) old new = new ≡ old
Leaves (Err (Memory m)) old new = new.spent ≡ true

pub record Dispatched (x : Happening) (n : ℕ) (old : Page) (result : Result (List Outcome) PageFault) (new : Page) : Type 0 where
  -- Spent exactly where an earlier call wanted memory
  pub spent : (result ≡ Err Spent) ↔ (old.spent ≡ true)
  -- Idle exactly where no handler runs
  pub idle : result ≡ Err Idle → Dispatches x n (state_of old) [] (state_of old)
  pub ran : IfOk result (λ os. 0 < length (told_all os))
  pub left : Leaves result old new
  -- the handlers that ran, each with its own digest, are those of the definition
  pub step : IfOk result (λ os. Dispatches x n (state_of old) (told_all os) (state_of new))
  -- the document is what the sites have kept
  pub displays : IfOk result (λ os. Displays new (shown (state_of new)))
  -- where the last digest answered Ok no watcher is dirty, and the document is the rendering
  pub settled : IfOk result (λ os. WhenOk (last_digest (told_all os)) (IsSettled (state_of new)))
  pub renders : IfOk result (λ os. WhenOk (last_digest (told_all os)) (rendering (state_of new) ≡ shown_as (shown (state_of new))))
  pub page : IsPage new
  -- that a counter stands at its last value is told only where one does
  pub worn : IfErr result (HasCause new)

-- what holds unless a digest was made that failed
abbrev pub UnlessFailed : Option (Result Report DigestFault) → Type 0 → Type 0
UnlessFailed None P = P
UnlessFailed (Some (Ok r)) P = P
UnlessFailed (Some (Err f)) P = Unit {0}
