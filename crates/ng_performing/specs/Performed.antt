-- What the code makes of one command.
use Rattle.std.specs.Prelude.{◌≡◌, ◌<◌, ℕ, true, false, List, [], length, Option, None, Some, Result, Ok, Err}
use Rattle.ng_base.specs.declared.fault.Memory.{Memory}
use Rattle.ng_link.specs.Events.{named}
use Rattle.ng_page.specs.Answered.{WhenOk}
use Rattle.ng_commands.specs.Commands.{Asked, is_idle}
use Rattle.ng_commands.specs.Handling.{Happening}
use Rattle.ng_page.specs.Dispatch.{Dispatches, last_digest}
use Rattle.ng_page.specs.Dispatched.{told_all}
use Rattle.ng_page.specs.OutcomeOf.{outcome_of}
use Rattle.ng_page.specs.PageOf.{state_of}
use Rattle.ng_commands.specs.Settled.{IsSettled}
use Rattle.ng_page.specs.Steps.{Steps, StepsShort}
use Rattle.ng_page.specs.Targets.{target_in}
use Rattle.ng_page.specs.declared.outcome.Outcome.{Outcome}
use Rattle.ng_page.specs.declared.outcome.PageFault.{PageFault}
use Rattle.ng_page.specs.declared.outcome.PageFault.TheVariants as page
use Rattle.ng_page.specs.declared.page.Page.{Page}
use Rattle.ng_script.specs.Acts.{Act}
use Rattle.ng_performing.specs.Aims.{asked_of}
use Rattle.ng_performing.specs.Fired.{Fired}
use Rattle.ng_page.specs.Ready.{IsReady, Renders}
use Rattle.ng_performing.specs.declared.performing.Done.{Done}
use Rattle.ng_performing.specs.declared.performing.Done.TheVariants as done

-- what a call of a page that is not spent comes to
abbrev pub Answers : Result Outcome PageFault → Result Done Memory → Type 0
Answers (Ok o) d = d ≡ Ok (done.Outcome o)
Answers (Err page.Idle) d = d ≡ Ok done.Idle
Answers (Err page.Spent) (Ok d) = ⊥
Answers (Err page.Spent) (Err m) = Unit {0}
Answers (Err (page.Memory n)) d = d ≡ Err n

abbrev pub AnswersFired : Result (List Outcome) PageFault → Result Done Memory → Type 0
AnswersFired (Ok os) d = d ≡ Ok (done.Outcomes os)
AnswersFired (Err page.Idle) d = d ≡ Ok done.Idle
AnswersFired (Err page.Spent) (Ok d) = ⊥
AnswersFired (Err page.Spent) (Err m) = Unit {0}
AnswersFired (Err (page.Memory n)) d = d ≡ Err n

-- what was asked of a page was done
pub record IsDone (a : Asked) (old : Page) (o : Outcome) (new : Page) : Type 0 where
  pub steps : Steps a (state_of old) (outcome_of o) (state_of new)
  pub report : StepsShort a (state_of old) o.digest (state_of new)
  pub ready : IsReady new
  pub settled : WhenOk o.digest (IsSettled (state_of new))
  pub rendering : WhenOk o.digest (Renders new)

-- what became of a command; after want of memory nothing is said
abbrev pub Performed : Option Asked → Page → Result Done Memory → Page → Type 0
Performed asked old (Ok done.Aimless) new = (asked ≡ None) × (new ≡ old)
Performed asked old (Ok done.Idle) new = (a : Asked) × (asked ≡ Some a) × (is_idle a (state_of old) ≡ true) × (new ≡ old)
Performed asked old (Ok (done.Outcome o)) new = (a : Asked) × (asked ≡ Some a) × (is_idle a (state_of old) ≡ false) × IsDone a old o new
Performed asked old (Ok (done.Outcomes os)) new = ⊥
Performed asked old (Err m) new = Unit {0}

-- the handlers of an event have run
pub record HasFired (x : Happening) (n : ℕ) (old : Page) (os : List Outcome) (new : Page) : Type 0 where
  pub dispatches : Dispatches x n (state_of old) (told_all os) (state_of new)
  pub some : 0 < length (told_all os)
  pub ready : IsReady new
  pub settled : WhenOk (last_digest (told_all os)) (IsSettled (state_of new))
  pub rendering : WhenOk (last_digest (told_all os)) (Renders new)

-- what became of an event that was fired at a target
abbrev pub FiredAt : Option ℕ → Happening → Page → Result Done Memory → Page → Type 0
FiredAt target x old (Ok done.Aimless) new = (target ≡ None) × (new ≡ old)
FiredAt target x old (Ok done.Idle) new = (n : ℕ) × (target ≡ Some n) × Dispatches x n (state_of old) [] (state_of old) × (new ≡ old)
FiredAt target x old (Ok (done.Outcome o)) new = ⊥
FiredAt target x old (Ok (done.Outcomes os)) new = (n : ℕ) × (target ≡ Some n) × HasFired x n old os new
FiredAt target x old (Err m) new = Unit {0}

abbrev pub FiredBy : Fired → Page → Result Done Memory → Page → Type 0
FiredBy x old result new = FiredAt (target_in x.target (named (state_of old))) x.event old result new

-- what became of a command
abbrev pub PerformedAct : Option Fired → Act → Page → Result Done Memory → Page → Type 0
PerformedAct None a old result new = Performed (asked_of a (state_of old)) old result new
PerformedAct (Some x) a old result new = FiredBy x old result new
