-- A step of a session is one: what it prints, and how it leaves the page.
use Rattle.std.proofs.Common.{◌≡◌, ℕ, Bool, true, false, List, [], ◌∷◌, ap, sym, ◌∙◌, subst}
use Rattle.std.specs.Prelude.{codes, Option, None, Some, Ok, Err}
use Rattle.ng_behaviour.specs.Scopes.{live_at}
use Rattle.ng_digest.specs.declared.log.Report.{Report}
use Rattle.ng_link.specs.Events.{named}
use Rattle.ng_link.specs.State.{State, rendering}
use Rattle.ng_commands.specs.Commands.{Asked, begun, asked_run, is_idle}
use Rattle.ng_commands.specs.Handling.{Happening}
use Rattle.ng_page.specs.Dispatch.{Told}
use Rattle.ng_page.specs.Opening.{opening}
use Rattle.ng_page.specs.Steps.{Outcome, Ends, EndsShort}
use Rattle.ng_page.specs.Targets.{target_in}
use Rattle.ng_script.specs.Acts.{Act, Entry}
use Rattle.ng_inputs.specs.Refusals.{Accepted}
use Rattle.ng_performing.specs.Aims.{asked_of}
use Rattle.ng_run.specs.Happenings.{HasTold, DoesEvent}
use Rattle.ng_performing.specs.Fired.{Fired, fired_by}
use Rattle.ng_printing.specs.Lines.{Digest, header, trace_line}
use Rattle.ng_printing.specs.Left.{Left, Step}
use Rattle.ng_printing.specs.StepLines.{step_of}
use Rattle.ng_run.specs.Steps.{left_by, IsTrace, Performs, DoesUnlessIdle, DoesAsked, DoesAct, Does, OpensPage}
use Rattle.ng_run.proofs.OneDigest.{short_one, ends_one}
use Rattle.ng_run.proofs.OneDispatch.{dispatch_one}

-- the trace
abbrev Took : State → State → Report → Type 0
Took s t r = EndsShort s (Some (Ok r)) t

told_one : (trace : Bool) (s t : State) (d : Digest) (l m : List ℕ) → IsTrace trace (Took s t) d l → IsTrace trace (Took s t) d m → l ≡ m
told_one true s t (Some (Ok counts)) l m (r, h, e) (q, k, f) = e ∙ (ap trace_line (short_one (live_at s.core.scopes 0) s r q t t h k) ∙ sym f)
told_one true s t (Some (Err f)) l m h k = h ∙ sym k
told_one true s t None l m h k = h ∙ sym k
told_one false s t d l m h k = h ∙ sym k

printed_one : (trace : Bool) (head : List ℕ) (s : State) (o p : Outcome) (t u : State) (l m : List ℕ) → Ends s o t → Ends s p u → IsTrace trace (Took s t) o.digest l → IsTrace trace (Took s u) p.digest m
    → (step_of head l o (rendering t) ≡ step_of head m p (rendering u)) × (left_by o t ≡ left_by p u)
printed_one trace head s o p t u l m h k x y =
    let one = ends_one s o p t u h k in
    let with_state : IsTrace trace (Took s u) o.digest l = subst (λ (v : State). IsTrace trace (Took s v) o.digest l) one.1 x in
    let with_outcome : IsTrace trace (Took s u) p.digest l = subst (λ (q : Outcome). IsTrace trace (Took s u) q.digest l) one.0 with_state in
    let told = told_one trace s u p.digest l m with_outcome y in (
      ap (λ q. step_of head l q (rendering t)) one.0 ∙ (ap (λ v. step_of head l p (rendering v)) one.1 ∙ ap (λ n. step_of head n p (rendering u)) told),
      ap (λ q. left_by q t) one.0 ∙ ap (left_by p) one.1,
    )

-- ---- a command

performs_one : (trace : Bool) (head : List ℕ) (a : Asked) (s : State) (x y : Step) (l m : Left) → Performs trace head a s x l → Performs trace head a s y m → (x ≡ y) × (l ≡ m)
performs_one trace head a s x y l m h k =
    let one = printed_one trace head (asked_run a (begun s)) h.outcome k.outcome h.state k.state h.told k.told h.steps k.steps h.took k.took in
    (h.prints ∙ (one.0 ∙ sym k.prints), h.leaves ∙ (one.1 ∙ sym k.leaves))

unless_one : (idle : Bool) (trace : Bool) (head : List ℕ) (a : Asked) (s : State) (x y : Step) (l m : Left) → DoesUnlessIdle idle trace head a s x l → DoesUnlessIdle idle trace head a s y m → (x ≡ y) × (l ≡ m)
unless_one true trace head a s x y l m h k = (h.0 ∙ sym k.0, h.1 ∙ sym k.1)
unless_one false trace head a s x y l m h k = performs_one trace head a s x y l m h k

asked_one : (trace : Bool) (head : List ℕ) (o : Option Asked) (s : State) (x y : Step) (l m : Left) → DoesAsked trace head o s x l → DoesAsked trace head o s y m → (x ≡ y) × (l ≡ m)
asked_one trace head None s x y l m h k = (h.0 ∙ sym k.0, h.1 ∙ sym k.1)
asked_one trace head (Some a) s x y l m h k = unless_one (is_idle a s) trace head a s x y l m h k

told_steps_one : (trace : Bool) (head : List ℕ) (os : List Told) (t : State) (x y : Step) (l m : Left) → HasTold trace head os t x l → HasTold trace head os t y m → (x ≡ y) × (l ≡ m)
told_steps_one trace head [] t x y l m h k = (h.0 ∙ sym k.0, h.1 ∙ sym k.1)
told_steps_one trace head (o ∷ os) t x y l m h k = (h.0 ∙ sym k.0, h.1 ∙ sym k.1)

event_one : (trace : Bool) (head : List ℕ) (e : Happening) (n : Option ℕ) (s : State) (x y : Step) (l m : Left) → DoesEvent trace head e n s x l → DoesEvent trace head e n s y m → (x ≡ y) × (l ≡ m)
event_one trace head e None s x y l m h k = (h.0 ∙ sym k.0, h.1 ∙ sym k.1)
event_one trace head e (Some n) s x y l m (os, t, d, h) (ps, u, b, k) =
    let one = dispatch_one e n s os ps t u d b in
    let with_told : HasTold trace head os u y m = subst (λ (z : List Told). HasTold trace head z u y m) (sym one.0) k in
    told_steps_one trace head os t x y l m h (subst (λ (z : State). HasTold trace head os z y m) (sym one.1) with_told)

act_one : (trace : Bool) (head : List ℕ) (f : Option Fired) (a : Act) (s : State) (x y : Step) (l m : Left) → DoesAct trace head f a s x l → DoesAct trace head f a s y m → (x ≡ y) × (l ≡ m)
act_one trace head None a s x y l m h k = asked_one trace head (asked_of a s) s x y l m h k
act_one trace head (Some f) a s x y l m h k = event_one trace head f.event (target_in f.target (named s)) s x y l m h k

pub does_one : (trace : Bool) (k : ℕ) (e : Entry) (s : State) (x y : Step) (l m : Left) → Does trace k e s x l → Does trace k e s y m → (x ≡ y) × (l ≡ m)
does_one trace k e s x y l m h j = act_one trace (header k e.shown) (fired_by e.act) e.act s x y l m h j

-- ---- the step that opens the page; it is the same whatever is done then

pub opened_one : (trace : Bool) (a : Accepted) (c d : List Entry) (x y : Step) (l m : Left) → OpensPage trace (record a { commands = c }) x l → OpensPage trace (record a { commands = d }) y m → (x ≡ y) × (l ≡ m)
opened_one trace a c d x y l m h k =
    let one = printed_one trace (codes "# 0 open\n") (opening a.facts a.template) h.outcome k.outcome h.state k.state h.told k.told h.opens k.opens h.took k.took in
    (h.prints ∙ (one.0 ∙ sym k.prints), h.leaves ∙ (one.1 ∙ sym k.leaves))
