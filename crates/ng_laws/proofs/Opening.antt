-- The files of a run have a session.
use Rattle.std.proofs.Common.{◌≡◌, ◌+◌, ℕ, Bool, true, false, List, [], ◌∷◌, refl, None, Some}
use Rattle.std.specs.Prelude.{codes, Option, Result, Ok, Err, option_map}
use Rattle.ng_base.specs.declared.path.Key.{Key}
use Rattle.ng_digest.specs.Early.{plain_answer, plain_of}
use Rattle.ng_digest.specs.Plain.{Plain, PlainDigests}
use Rattle.ng_digest.specs.Place.{Place}
use Rattle.ng_digest.specs.Short.{Digests}
use Rattle.ng_digest.specs.declared.log.Report.{Report}
use Rattle.ng_digest.specs.declared.rounds.DigestFault.{DigestFault}
use Rattle.ng_link.specs.Events.{named}
use Rattle.ng_link.specs.State.{State, rendering}
use Rattle.ng_page.specs.Answered.{ready_place}
use Rattle.ng_commands.specs.Commands.{Asked, is_idle, begun, asked_run}
use Rattle.ng_commands.specs.Handling.{Happening}
use Rattle.ng_page.specs.Dispatch.{Told}
use Rattle.ng_page.specs.Opening.{opening}
use Rattle.ng_page.specs.PageMachine as page
use Rattle.ng_page.specs.PageMachine.{page_machine, readied}
use Rattle.ng_page.specs.Steps.{Outcome, EndsShort}
use Rattle.ng_page.specs.Targets.{target_in}
use Rattle.ng_script.specs.Acts.{Act, Entry}
use Rattle.ng_inputs.specs.Refusals.{Accepted, accepted}
use Rattle.ng_inputs.specs.declared.refusal.Refusal.{Refusal}
use Rattle.ng_performing.specs.Aims.{asked_of}
use Rattle.ng_printing.specs.EventStep.{event_step}
use Rattle.ng_run.specs.Happenings.{left_after, HasTold, DoesEvent}
use Rattle.ng_performing.specs.Fired.{Fired, fired_by}
use Rattle.ng_printing.specs.Lines.{header, told_lines}
use Rattle.ng_run.specs.Session.{Reply, refused, done, whole, Runs, SessionOf}
use Rattle.ng_printing.specs.Left.{Left, Step, idle_step, aimless_step, same_page}
use Rattle.ng_printing.specs.StepLines.{step_of}
use Rattle.ng_run.specs.Steps.{left_by, IsTrace, DoesUnlessIdle, DoesAsked, DoesAct, Continues}
use Rattle.ng_run.proofs.Performing.{told_is}
use Rattle.ng_laws.specs.Sessions.{DigestEnds, SessionIsThere}
use Rattle.ng_laws.proofs.Ends.{ShortEnds}
use Rattle.ng_fire.proofs.Ordered.{IsOrdered}
use Rattle.ng_laws.proofs.Ordered.{IsGood, page_ends, opening_ordered, asked_ordered}
use Rattle.ng_laws.proofs.StepEnds.{StepEnds, outcome_by, plain_end, step_ends}
use Rattle.ng_laws.proofs.Dispatching.{dispatch_some}

-- ---- steps

abbrev ended_by : (s : State) → StepEnds s → Outcome
ended_by s e = outcome_by s e.answer e.probed

-- the trace of its digest
trace_of : (trace : Bool) (s : State) (e : StepEnds s) → (l : List ℕ) × IsTrace trace (λ r. EndsShort s (Some (Ok r)) e.state) (option_map plain_answer e.answer) l
trace_of trace s e = (told_lines trace e.answer, told_is trace e.answer (λ x. EndsShort s x e.state) e.short)

-- a command is done, or nothing is
abbrev CommandEnds : (Step → Left → Type 0) → Type 0
CommandEnds Done = (step : Step) × (next : Left) × Done step next × IsOrdered next.state

unless_some : (idle trace : Bool) (head : List ℕ) (a : Asked) (s : State) → IsOrdered s → CommandEnds (DoesUnlessIdle idle trace head a s)
unless_some true trace head a s h = (idle_step head, same_page s, (refl, refl), h)
unless_some false trace head a s h =
    let e = step_ends (asked_run a (begun s)) (asked_ordered a s h) in
    let told = trace_of trace (asked_run a (begun s)) e in (
      step_of head told.0 (ended_by (asked_run a (begun s)) e) (rendering e.state),
      left_by (ended_by (asked_run a (begun s)) e) e.state,
      record { outcome = ended_by (asked_run a (begun s)) e; state = e.state; told = told.0; steps = e.ends; took = told.1; prints = refl; leaves = refl },
      e.ordered,
    )

asked_some : (trace : Bool) (head : List ℕ) (o : Option Asked) (s : State) → IsOrdered s → CommandEnds (DoesAsked trace head o s)
asked_some trace head None s h = (aimless_step head, same_page s, (refl, refl), h)
asked_some trace head (Some a) s h = unless_some (is_idle a s) trace head a s h

told_some : (trace : Bool) (head : List ℕ) (os : List Told) (t : State) → IsOrdered t → CommandEnds (HasTold trace head os t)
told_some trace head [] t h = (idle_step head, same_page t, (refl, refl), h)
told_some trace head (o ∷ os) t h = (event_step trace head (o ∷ os) (rendering t), left_after (o ∷ os) t, (refl, refl), h)

event_some : (trace : Bool) (head : List ℕ) (x : Happening) (n : Option ℕ) (s : State) → IsOrdered s → CommandEnds (DoesEvent trace head x n s)
event_some trace head x None s h = (aimless_step head, same_page s, (refl, refl), h)
event_some trace head x (Some n) s h =
    let d = dispatch_some x n s h in
    let one = told_some trace head d.0 d.1 d.3 in
    (one.0, one.1, (d.0, d.1, d.2, one.2), one.3)

act_some : (trace : Bool) (head : List ℕ) (f : Option Fired) (a : Act) (s : State) → IsOrdered s → CommandEnds (DoesAct trace head f a s)
act_some trace head None a s h = asked_some trace head (asked_of a s) s h
act_some trace head (Some f) a s h = event_some trace head f.event (target_in f.target (named s)) s h

continues_some : (trace : Bool) (k : ℕ) (es : List Entry) (left : Left) → IsOrdered left.state → (steps : List Step) × (end : Left) × Continues trace k es left steps end
continues_some trace k [] left h = ([], left, (refl, refl))
continues_some trace k (e ∷ es) left h =
    let one = act_some trace (header k e.shown) (fired_by e.act) e.act left.state h in
    let more = continues_some trace (k + 1) es one.1 one.3 in
    (one.0 ∷ more.0, more.1, (one.0, one.1, more.0, one.2, more.2, refl))

runs_some : (trace : Bool) (a : Accepted) → (r : Reply) × Runs whole trace a r
runs_some trace a =
    let s = opening a.facts a.template in
    let e = step_ends s (opening_ordered a.facts a.template) in
    let told = trace_of trace s e in
    let first : Step = step_of (codes "# 0 open\n") told.0 (ended_by s e) (rendering e.state) in
    let left : Left = left_by (ended_by s e) e.state in
    let more = continues_some trace 1 a.commands left e.ordered in (
      done (first ∷ more.0) more.1,
      (
        first ∷ more.0,
        more.1,
        (
          first,
          left,
          more.0,
          record { outcome = ended_by s e; state = e.state; told = told.0; opens = e.ends; took = told.1; prints = refl; leaves = refl },
          more.2,
          refl,
        ),
        refl,
      ),
    )

session_of_some : (trace : Bool) (c : Result Accepted Refusal) → (r : Reply) × SessionOf whole trace c r
session_of_some trace (Ok a) = runs_some trace a
session_of_some trace (Err f) = (refused f, refl)

pub session_some : SessionIsThere
session_some trace i = session_of_some trace (accepted i)

-- ---- digests

digest_by : (s : State) → ShortEnds page_machine IsGood (ready_place s) → (answer : Result Report DigestFault) × (short : Place page.State Key) × (end : Plain page.State)
    × Digests page_machine (ready_place s) answer short × PlainDigests page_machine (readied s) (plain_answer answer) end × (end.state ≡ short.state)
digest_by s (answer, end, d, sure, good) =
    (answer, end, plain_of end, d, plain_end s answer end d sure, refl)

pub digest_some : DigestEnds
digest_some s o = digest_by s (page_ends s o)
