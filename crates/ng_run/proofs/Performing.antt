-- What a digest that answered Ok says, and the step of a command.
use Rattle.std.proofs.Common.{◌≡◌, ◌<◌, ℕ, Bool, true, false, IsTrue, List, [], ◌∷◌, length, refl, ap, sym, subst, true≢false, arith}
use Rattle.std.specs.Prelude.{Option, None, Some, Result, Ok, Err, option_map}
use Rattle.ng_digest.specs.Early.{plain_answer}
use Rattle.ng_digest.specs.declared.log.Report.{Report}
use Rattle.ng_digest.specs.declared.rounds.DigestFault.{DigestFault}
use Rattle.ng_link.specs.State.{rendering}
use Rattle.ng_page.specs.Answered.{WhenOk}
use Rattle.ng_page.specs.Dispatch.{Told, last_digest}
use Rattle.ng_page.specs.Dispatched.{told_all}
use Rattle.ng_page.specs.OutcomeOf.{outcome_of}
use Rattle.ng_page.specs.PageOf.{state_of}
use Rattle.ng_commands.specs.Settled.{IsSettled}
use Rattle.ng_page.specs.Steps.{StepsShort}
use Rattle.ng_page.specs.declared.outcome.Outcome.{Outcome}
use Rattle.ng_page.specs.declared.page.Page.{Page}
use Rattle.ng_script.specs.Acts.{Entry}
use Rattle.ng_printing.specs.EventStep.{event_step}
use Rattle.ng_run.specs.Happenings.{left_after, HasTold, DoesEvent}
use Rattle.ng_performing.specs.Fired.{Fired, fired_by}
use Rattle.ng_printing.specs.Lines.{header, told_lines}
use Rattle.ng_performing.specs.Performed.{PerformedAct}
use Rattle.ng_run.specs.Doing.{IsStepOf}
use Rattle.ng_printing.specs.StepSeen.{step_seen}
use Rattle.ng_page.specs.Ready.{IsReady, Renders}
use Rattle.ng_run.specs.ReplyOf.{LeavesPage}
use Rattle.ng_printing.specs.Left.{Left, is_digested, idle_step, aimless_step, same_page}
use Rattle.ng_printing.specs.StepLines.{step_of}
use Rattle.ng_run.specs.Steps.{left_by, IsTrace, DoesUnlessIdle, DoesAsked, DoesAct}
use Rattle.ng_performing.specs.declared.performing.Done.{Done}
use Rattle.ng_performing.specs.declared.performing.Done.TheVariants as done
use Rattle.ng_printing.specs.declared.reply.Lines.{Lines}

-- ---- what is said of a digest that answered Ok

pub when_ok : (P : Type 0) (d : Option (Result Report DigestFault)) → WhenOk d P → IsTrue (is_digested (option_map plain_answer d)) → P
when_ok P None h t = absurd (true≢false (sym t))
when_ok P (Some (Ok r)) h t = h
when_ok P (Some (Err e)) h t = absurd (true≢false (sym t))

-- the trace that is told is that of the digest
pub told_is : (trace : Bool) (d : Option (Result Report DigestFault)) (Took : Option (Result Report DigestFault) → Type 0) → Took d → IsTrace trace (λ r. Took (Some (Ok r))) (option_map plain_answer d) (told_lines trace d)
told_is true None Took h = refl
told_is true (Some (Ok r)) Took h = (r, h, refl)
told_is true (Some (Err f)) Took h = refl
told_is false d Took h = refl

-- ---- the step of a command

not_digested : IsTrue false → ⊥
not_digested t = true≢false (sym t)

left_same : (old new : Page) → IsReady old → new ≡ old → LeavesPage new (same_page (state_of old))
left_same old new ready same = record {
  ready = subst IsReady (sym same) ready;
  state = ap state_of same;
  settled = λ t. absurd (not_digested t);
  rendering = λ t. absurd (not_digested t);
}

module _ (trace : Bool) (k : ℕ) (e : Entry) (old new : Page) (l : Lines) (ready : IsReady old) where
  abbrev head : List ℕ
  head = header k e.shown

  -- what a command does, which fires this event or none
  abbrev StepBy : Option Fired → Type 0
  StepBy f = (next : Left) × DoesAct trace head f e.act (state_of old) (step_seen l) next × LeavesPage new next

  abbrev Became : Option Fired → Done → Type 0
  Became f d = PerformedAct f e.act old (Ok d) new

  aimless_by : (f : Option Fired) → Became f done.Aimless → step_seen l ≡ aimless_step head → StepBy f
  aimless_by None h is =
      (same_page (state_of old), subst (λ o. DoesAsked trace head o (state_of old) (step_seen l) (same_page (state_of old))) (sym h.0) (is, refl), left_same old new ready h.1)
  aimless_by (Some x) h is =
      (same_page (state_of old), subst (λ o. DoesEvent trace head x.event o (state_of old) (step_seen l) (same_page (state_of old))) (sym h.0) (is, refl), left_same old new ready h.1)

  pub aimless_does : Became (fired_by e.act) done.Aimless → step_seen l ≡ aimless_step head → IsStepOf trace k e old l new
  aimless_does h is = aimless_by (fired_by e.act) h is

  idle_by : (f : Option Fired) → Became f done.Idle → step_seen l ≡ idle_step head → StepBy f
  idle_by None (a, asked, idle, same) is = (
    same_page (state_of old),
    subst (λ o. DoesAsked trace head o (state_of old) (step_seen l) (same_page (state_of old))) (sym asked)
        (subst (λ b. DoesUnlessIdle b trace head a (state_of old) (step_seen l) (same_page (state_of old))) (sym idle) (is, refl)),
    left_same old new ready same,
  )
  idle_by (Some x) (n, at, ran, same) is = (
    same_page (state_of old),
    subst (λ o. DoesEvent trace head x.event o (state_of old) (step_seen l) (same_page (state_of old))) (sym at) ([], state_of old, ran, (is, refl)),
    left_same old new ready same,
  )

  pub idle_does : Became (fired_by e.act) done.Idle → step_seen l ≡ idle_step head → IsStepOf trace k e old l new
  idle_does h is = idle_by (fired_by e.act) h is

  outcome_by : (f : Option Fired) (o : Outcome) → Became f (done.Outcome o) → step_seen l ≡ step_of head (told_lines trace o.digest) (outcome_of o) (rendering (state_of new)) → StepBy f
  outcome_by None o (a, asked, busy, did) is = (
    left_by (outcome_of o) (state_of new),
    subst (λ x. DoesAsked trace head x (state_of old) (step_seen l) (left_by (outcome_of o) (state_of new))) (sym asked)
        (subst (λ b. DoesUnlessIdle b trace head a (state_of old) (step_seen l) (left_by (outcome_of o) (state_of new))) (sym busy) (record {
          outcome = outcome_of o;
          state = state_of new;
          told = told_lines trace o.digest;
          steps = did.steps;
          took = told_is trace o.digest (λ d. StepsShort a (state_of old) d (state_of new)) did.report;
          prints = is;
          leaves = refl;
        })),
    record {
      ready = did.ready;
      state = refl;
      settled = when_ok (IsSettled (state_of new)) o.digest did.settled;
      rendering = when_ok _ o.digest did.rendering;
    },
  )
  outcome_by (Some x) o h is = absurd h

  pub outcome_does : (o : Outcome) → Became (fired_by e.act) (done.Outcome o) → step_seen l ≡ step_of head (told_lines trace o.digest) (outcome_of o) (rendering (state_of new)) → IsStepOf trace k e old l new
  outcome_does o h is = outcome_by (fired_by e.act) o h is

  has_told : (os : List Told) → 0 < length os → step_seen l ≡ event_step trace head os (rendering (state_of new)) → HasTold trace head os (state_of new) (step_seen l) (left_after os (state_of new))
  has_told [] some is = absurd (omega arith)
  has_told (o ∷ os) some is = (is, refl)

  outcomes_by : (f : Option Fired) (os : List Outcome) → Became f (done.Outcomes os) → step_seen l ≡ event_step trace head (told_all os) (rendering (state_of new)) → StepBy f
  outcomes_by None os h is = absurd h
  outcomes_by (Some x) os (n, at, did) is = (
    left_after (told_all os) (state_of new),
    subst (λ o. DoesEvent trace head x.event o (state_of old) (step_seen l) (left_after (told_all os) (state_of new))) (sym at)
        (told_all os, state_of new, did.dispatches, has_told (told_all os) did.some is),
    record {
      ready = did.ready;
      state = refl;
      settled = when_ok (IsSettled (state_of new)) (last_digest (told_all os)) did.settled;
      rendering = when_ok (Renders new) (last_digest (told_all os)) did.rendering;
    },
  )

  pub outcomes_does : (os : List Outcome) → Became (fired_by e.act) (done.Outcomes os) → step_seen l ≡ event_step trace head (told_all os) (rendering (state_of new)) → IsStepOf trace k e old l new
  outcomes_does os h is = outcomes_by (fired_by e.act) os h is
