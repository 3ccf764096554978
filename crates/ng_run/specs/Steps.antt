-- The steps of a session: what each prints, and how it leaves the page.
pub use Rattle.ng_printing.specs.Left.{Left, Step, is_digested, idle_step, aimless_step, same_page}
use Rattle.std.specs.Prelude.{ℕ, ◌≡◌, ◌+◌, Bool, true, false, List, [], ◌∷◌, codes, Option, None, Some, Ok, Err}
use Rattle.ng_digest.specs.declared.log.Report.{Report}
use Rattle.ng_link.specs.Events.{named}
use Rattle.ng_link.specs.State.{State, rendering}
use Rattle.ng_commands.specs.Commands.{Asked, is_idle}
use Rattle.ng_page.specs.Steps.{Outcome, Steps, StepsShort, Opens, OpensShort}
use Rattle.ng_page.specs.Targets.{target_in}
use Rattle.ng_script.specs.Acts.{Act, Entry}
use Rattle.ng_performing.specs.Aims.{asked_of}
use Rattle.ng_run.specs.Happenings.{DoesEvent}
use Rattle.ng_performing.specs.Fired.{Fired, fired_by}
use Rattle.ng_printing.specs.Lines.{Digest, header, trace_line}
use Rattle.ng_inputs.specs.Refusals.{Accepted}
use Rattle.ng_printing.specs.StepLines.{step_of}

abbrev pub left_by : Outcome → State → Left
left_by o s = record { state = s; digested = is_digested o.digest }

-- With `--trace` a digest that answered Ok is told with what it took, where each round stops at the watcher that was last dirty.
abbrev pub IsTrace : Bool → (Report → Type 0) → Digest → List ℕ → Type 0
IsTrace true Took (Some (Ok counts)) l = (r : Report) × Took r × (l ≡ trace_line r)
IsTrace true Took (Some (Err f)) l = l ≡ []
IsTrace true Took None l = l ≡ []
IsTrace false Took digest l = l ≡ []

-- what is asked of the page is done
pub record Performs (trace : Bool) (head : List ℕ) (a : Asked) (s : State) (step : Step) (left : Left) : Type 0 where
  pub outcome : Outcome
  pub state : State
  pub told : List ℕ
  pub steps : Steps a s outcome state
  pub took : IsTrace trace (λ r. StepsShort a s (Some (Ok r)) state) outcome.digest told
  pub prints : step ≡ step_of head told outcome (rendering state)
  pub leaves : left ≡ left_by outcome state

-- nothing is done where the root, or the scope in question, is not live
abbrev pub DoesUnlessIdle : Bool → Bool → List ℕ → Asked → State → Step → Left → Type 0
DoesUnlessIdle true trace head a s step left = (step ≡ idle_step head) × (left ≡ same_page s)
DoesUnlessIdle false trace head a s step left = Performs trace head a s step left

-- nor where no element stands at the target, or no control of its kind
abbrev pub DoesAsked : Bool → List ℕ → Option Asked → State → Step → Left → Type 0
DoesAsked trace head None s step left = (step ≡ aimless_step head) × (left ≡ same_page s)
DoesAsked trace head (Some a) s step left = DoesUnlessIdle (is_idle a s) trace head a s step left

-- a command fires an event, or asks something else of the page
abbrev pub DoesAct : Bool → List ℕ → Option Fired → Act → State → Step → Left → Type 0
DoesAct trace head None a s step left = DoesAsked trace head (asked_of a s) s step left
DoesAct trace head (Some x) a s step left = DoesEvent trace head x.event (target_in x.target (named s)) s step left

-- a command, the k-th of the script, is done so
abbrev pub Does : Bool → ℕ → Entry → State → Step → Left → Type 0
Does trace k e s step left = DoesAct trace (header k e.shown) (fired_by e.act) e.act s step left

-- commands are done one after another, the first of them as step k
abbrev pub Continues : Bool → ℕ → List Entry → Left → List Step → Left → Type 0
Continues trace k [] left steps end = (steps ≡ []) × (end ≡ left)
Continues trace k (e ∷ es) left steps end =
    (step : Step) × (next : Left) × (rest : List Step) × Does trace k e left.state step next × Continues trace (k + 1) es next rest end × (steps ≡ step ∷ rest)

-- the step that opens the page
pub record OpensPage (trace : Bool) (a : Accepted) (step : Step) (left : Left) : Type 0 where
  pub outcome : Outcome
  pub state : State
  pub told : List ℕ
  pub opens : Opens a.facts a.template outcome state
  pub took : IsTrace trace (λ r. OpensShort a.facts a.template (Some (Ok r)) state) outcome.digest told
  pub prints : step ≡ step_of (codes "# 0 open\n") told outcome (rendering state)
  pub leaves : left ≡ left_by outcome state

-- the page is opened, and the commands are done
abbrev pub RunsSteps : Bool → Accepted → List Step → Left → Type 0
RunsSteps trace a steps end =
    (step : Step) × (left : Left) × (rest : List Step) × OpensPage trace a step left × Continues trace 1 a.commands left rest end × (steps ≡ step ∷ rest)
