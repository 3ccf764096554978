-- A step of a page comes to an end, whatever its programs left.
use Rattle.std.proofs.Common.{◌≡◌, ℕ, Bool, true, false, List, [], refl, sym, subst, None, Some}
use Rattle.std.specs.Prelude.{Option, Result, Ok, Err, option_map}
use Rattle.ng_base.specs.declared.path.Key.{Key}
use Rattle.ng_behaviour.specs.Scopes.{live_at}
use Rattle.ng_digest.specs.Causes.{Unless}
use Rattle.ng_digest.specs.Early.{plain_answer, plain_of}
use Rattle.ng_digest.specs.Plain.{PlainDigests}
use Rattle.ng_digest.specs.Place.{Place}
use Rattle.ng_digest.specs.Short.{Digests}
use Rattle.ng_digest.proofs.Stop.{digest_plain}
use Rattle.ng_digest.specs.declared.log.Report.{Report}
use Rattle.ng_digest.specs.declared.rounds.DigestFault.{DigestFault}
use Rattle.ng_digest.specs.declared.rounds.DigestFault.TheVariants as fault
use Rattle.ng_link.specs.State.{State}
use Rattle.ng_page.specs.Answered.{ready_place, DigestsWhere, ShortWhere}
use Rattle.ng_page.specs.PageLaws.{page_laws}
use Rattle.ng_page.specs.PageMachine as page
use Rattle.ng_page.specs.PageMachine.{page_machine, readied}
use Rattle.ng_page.specs.Steps.{Outcome, Ends, EndsShort}
use Rattle.ng_laws.proofs.Ends.{IsSure, ShortEnds}
use Rattle.ng_fire.proofs.Ordered.{IsOrdered}
use Rattle.ng_laws.proofs.Ordered.{IsGood, page_ends}

sure_plain : (P : Type 0) (answer : Result Report DigestFault) → IsSure answer → Unless answer P → P
sure_plain P (Ok r) s h = h
sure_plain P (Err fault.Infdig) s h = h
sure_plain P (Err fault.FireLimit) s h = h
sure_plain P (Err fault.AsyncLimit) s h = h
sure_plain P (Err (fault.Faulted first count)) s h = h
sure_plain P (Err (fault.Memory e)) s h = absurd s

-- the digest that stops early comes to an end, and the plain one with it
pub plain_end : (s : State) (answer : Result Report DigestFault) (end : Place page.State Key) → Digests page_machine (ready_place s) answer end → IsSure answer → PlainDigests page_machine (readied s) (plain_answer answer) (plain_of end)
plain_end s answer end d sure = sure_plain (PlainDigests page_machine (readied s) (plain_answer answer) (plain_of end)) answer sure (digest_plain page_machine page_laws d refl refl)

-- a digest that was made or not, as an outcome has it
abbrev pub outcome_by : State → Option (Result Report DigestFault) → List (List ℕ) → Outcome
outcome_by s answer probed = record { count = s.core.handed.count; first = s.core.handed.first; digest = option_map plain_answer answer; probed = probed }

-- how a step ends, from what programs left
pub record StepEnds (s : State) : Type 0 where
  pub answer : Option (Result Report DigestFault)
  pub probed : List (List ℕ)
  pub state : State
  pub ends : Ends s (outcome_by s answer probed) state
  pub short : EndsShort s answer state
  pub ordered : IsOrdered state

ends_by : (s : State) (due : Bool) → live_at s.core.scopes 0 ≡ due → IsOrdered s → ShortEnds page_machine IsGood (ready_place s) → StepEnds s
ends_by s false dead h (answer, end, d, sure, good) = record {
  answer = None;
  probed = [];
  state = s;
  ends = record { count = refl; first = refl; digest = subst (λ b. DigestsWhere b s None [] s) (sym dead) (refl, refl) };
  short = subst (λ b. ShortWhere b s None s) (sym dead) refl;
  ordered = h;
}
ends_by s true alive h (answer, end, d, sure, good) = record {
  answer = Some answer;
  probed = end.state.probed;
  state = end.state.works;
  ends = record {
    count = refl;
    first = refl;
    digest = subst (λ b. DigestsWhere b s (Some (plain_answer answer)) end.state.probed end.state.works) (sym alive) (plain_of end, plain_end s answer end d sure, refl, refl);
  };
  short = subst (λ b. ShortWhere b s (Some answer) end.state.works) (sym alive) (end, d, refl);
  ordered = good;
}

pub step_ends : (s : State) → IsOrdered s → StepEnds s
step_ends s h = ends_by s (live_at s.core.scopes 0) refl h (page_ends s h)
