-- How a step ends is one: its digest, with what that took, and the state after.
use Rattle.std.proofs.Common.{◌≡◌, ℕ, Bool, true, false, List, refl, ap, sym, ◌∙◌}
use Rattle.std.specs.Prelude.{Option, None, Some, Result, Ok, Err, option_map}
use Rattle.ng_base.specs.declared.fault.Fault.{Fault}
use Rattle.ng_behaviour.specs.Scopes.{live_at}
use Rattle.ng_digest.proofs.One.{digest_one}
use Rattle.ng_digest.specs.Early.{plain_answer}
use Rattle.ng_digest.specs.declared.log.Report.{Report}
use Rattle.ng_digest.specs.declared.rounds.DigestFault.{DigestFault}
use Rattle.ng_link.specs.State.{State}
use Rattle.ng_page.specs.Answered.{PlainlyDigests, DigestsWhere, ShortWhere}
use Rattle.ng_page.specs.PageMachine.{page_machine}
use Rattle.ng_page.specs.Steps.{Outcome, Ends}
use Rattle.ng_printing.specs.Lines.{Digest}
use Rattle.ng_run.proofs.ShortOne.{report_one}

-- ---- a digest of a page

digested_one : (s : State) (a b : Result (ℕ × ℕ) DigestFault) (x y : List (List ℕ)) (t u : State) → PlainlyDigests s a x t → PlainlyDigests s b y u → (a ≡ b) × (x ≡ y) × (t ≡ u)
digested_one s a b x y t u (end, d, e, f) (fin, g, h, i) =
    let one = digest_one page_machine d g in
    (one.0, f ∙ (ap (λ p. p.state.probed) one.1 ∙ sym i), e ∙ (ap (λ p. p.state.works) one.1 ∙ sym h))

where_one : (due : Bool) (s : State) (d e : Digest) (x y : List (List ℕ)) (t u : State) → DigestsWhere due s d x t → DigestsWhere due s e y u → (d ≡ e) × (x ≡ y) × (t ≡ u)
where_one true s None e x y t u h k = absurd h
where_one true s (Some a) None x y t u h k = absurd k
where_one true s (Some a) (Some b) x y t u h k = let one = digested_one s a b x y t u h k in (ap (λ z. Some z) one.0, one.1, one.2)
where_one false s (Some a) e x y t u h k = absurd h
where_one false s None (Some b) x y t u h k = absurd k
where_one false s None None x y t u h k = (refl, h.1 ∙ sym k.1, h.0 ∙ sym k.0)

pub short_one : (due : Bool) (s : State) (r q : Report) (t u : State) → ShortWhere due s (Some (Ok r)) t → ShortWhere due s (Some (Ok q)) u → r ≡ q
short_one true s r q t u (x, d, e) (y, g, f) = report_one page_machine d g
short_one false s r q t u h k = absurd h

-- the answer with what it took: where the digest answered Ok its counts are those of the one that stops early
pub answer_one : (due : Bool) (s : State) (d e : Option (Result Report DigestFault)) (t u : State) → option_map plain_answer d ≡ option_map plain_answer e → ShortWhere due s d t → ShortWhere due s e u → d ≡ e
answer_one due s None None t u is h k = refl
answer_one due s None (Some a) t u is h k = cc
answer_one due s (Some a) None t u is h k = cc
answer_one due s (Some (Ok r)) (Some (Ok q)) t u is h k = ap (λ (z : Report). Some (Ok z)) (short_one due s r q t u h k)
answer_one due s (Some (Ok r)) (Some (Err f)) t u is h k = cc
answer_one due s (Some (Err f)) (Some (Ok r)) t u is h k = cc
answer_one due s (Some (Err f)) (Some (Err g)) t u is h k = cc

-- ---- from what programs left

abbrev made : ℕ → Option Fault → Digest → List (List ℕ) → Outcome
made count first digest probed = record { count = count; first = first; digest = digest; probed = probed }

same_outcome : (o p : Outcome) → o.count ≡ p.count → o.first ≡ p.first → o.digest ≡ p.digest → o.probed ≡ p.probed → o ≡ p
same_outcome o p e f g h =
    ap (λ x. made x o.first o.digest o.probed) e
    ∙ (ap (λ x. made p.count x o.digest o.probed) f
    ∙ (ap (λ x. made p.count p.first x o.probed) g
    ∙ ap (λ x. made p.count p.first p.digest x) h))

pub ends_one : (s : State) (o p : Outcome) (t u : State) → Ends s o t → Ends s p u → (o ≡ p) × (t ≡ u)
ends_one s o p t u h k =
    let one = where_one (live_at s.core.scopes 0) s o.digest p.digest o.probed p.probed t u h.digest k.digest in
    (same_outcome o p (h.count ∙ sym k.count) (h.first ∙ sym k.first) one.0 one.1, one.2)
