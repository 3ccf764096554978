-- What the turn of a handler leaves of a page.
use Rattle.std.proofs.Common.{◌≡◌, ◌≤◌, ◌∙◌, ℕ, Bool, true, false, List, [], ◌∷◌, length, if◌then◌else◌, Option, Some, None, Result, Ok, Err, IfOk, OnOk, refl, ap, sym, subst, arith}
use Rattle.std.specs.Prelude.{option_map}
use Rattle.ng_act.specs.Running.{same}
use Rattle.ng_core.specs.State as act
use Rattle.ng_behaviour.specs.Scopes.{live_at}
use Rattle.ng_digest.specs.Early.{plain_answer}
use Rattle.ng_digest.specs.declared.log.Report.{Report}
use Rattle.ng_digest.specs.declared.rounds.DigestFault.{DigestFault}
use Rattle.ng_changes.specs.Runs.{followed}
use Rattle.ng_language.specs.Trees.{Trees}
use Rattle.ng_link.specs.Calls.{left_at}
use Rattle.ng_build.specs.Controls.{ControlHere}
use Rattle.ng_link.specs.Events.{scope_of, control_at}
use Rattle.ng_link.specs.State as link
use Rattle.ng_watch.specs.Table.{Table, found, without_under}
use Rattle.ng_page.specs.Answered.{DigestsWhere, WhenOk}
use Rattle.ng_commands.specs.Handling.{Happening, Event, unmade, awaited, made, refused, Going, ready, event_then, handling_run, rested, handled, touch_run, touched, touched_then}
use Rattle.ng_page.specs.Dispatch.{TakesTurn, Touches}
use Rattle.ng_page.specs.Dispatched.{told_of, UnlessFailed}
use Rattle.ng_commands.specs.HandlingOf.{event_seen, MadeBelow}
use Rattle.ng_page.specs.OutcomeOf.{outcome_of}
use Rattle.ng_commands.specs.Settled.{IsSettled}
use Rattle.ng_page.specs.Steps as steps
use Rattle.ng_page.specs.Steps.{Ends, EndsShort}
use Rattle.ng_commands.specs.declared.handling.Event as code
use Rattle.ng_commands.specs.declared.handling.Event.TheVariants as events
use Rattle.ng_page.specs.declared.outcome.Outcome.{Outcome}
use Rattle.ng_page.proofs.DigestsStay.{digest_stays}
use Rattle.ng_commands.proofs.Handled.{rested_core, rested_grown}

digest_grown : (due : Bool) (s t : link.State) (d : Option (Result (ℕ × ℕ) DigestFault)) (probed : List (List ℕ)) → DigestsWhere due s d probed t → length s.core.objects ≤ length t.core.objects
digest_grown true s t None probed h = absurd h
digest_grown true s t (Some a) probed (end, d, e, f) = subst (λ (x : link.State). length s.core.objects ≤ length x.core.objects) (sym e) (digest_stays s a end d).grown
digest_grown false s t (Some a) probed h = absurd h
digest_grown false s t None probed h = subst (λ (x : link.State). length s.core.objects ≤ length x.core.objects) (sym h.0) (omega arith)

-- the end of a step loses no object
pub ends_grown : (s : link.State) (o : steps.Outcome) (t : link.State) → Ends s o t → length s.core.objects ≤ length t.core.objects
ends_grown s o t h = digest_grown (live_at s.core.scopes 0) s t o.digest o.probed h.digest

-- ---- on a root that died no watcher is dirty

nothing_left : (t : Table) → without_under [] t ≡ []
nothing_left [] = refl
nothing_left (e ∷ t) = nothing_left t

left_settled : (s : link.State) → IsSettled (left_at [] s)
left_settled s k w e = let f : found k [] ≡ Some w = ap (found k) (sym (nothing_left s.watchers)) ∙ e in cc

rested_settled : (b : Bool) (m : link.State) → b ≡ false → IsSettled (if b then m else left_at [] m)
rested_settled true m e = cc
rested_settled false m e = left_settled m

undigested : (due : Bool) (m s t : link.State) (probed : List (List ℕ)) → s ≡ rested m → live_at s.core.scopes 0 ≡ due → DigestsWhere due s None probed t → IsSettled t
undigested true m s t probed e l h = absurd h
undigested false m s t probed e l h =
    let dead : live_at m.core.scopes 0 ≡ false = ap (λ (c : act.State). live_at c.scopes 0) (sym (ap (λ (x : link.State). x.core) e ∙ rested_core m)) ∙ l in
    subst IsSettled (sym (h.0 ∙ e)) (rested_settled (live_at m.core.scopes 0) m dead)

-- after a turn no watcher is dirty, unless its digest failed
pub turn_settled : (m s : link.State) (d : Option (Result Report DigestFault)) (o : Outcome) (t : link.State) → d ≡ o.digest → s ≡ rested m → Ends s (outcome_of o) t → WhenOk d (IsSettled t) → UnlessFailed d (IsSettled t)
turn_settled m s (Some (Ok r)) o t g e h settled = settled
turn_settled m s (Some (Err f)) o t g e h settled = tt
turn_settled m s None o t g e h settled =
    undigested (live_at s.core.scopes 0) m s t o.probed e refl
    (subst (λ (x : Option (Result (ℕ × ℕ) DigestFault)). DigestsWhere (live_at s.core.scopes 0) s x o.probed t) (sym (ap (option_map plain_answer) g)) h.digest)

-- ---- the turn itself

-- what begins a turn makes no object
pub ready_objects : (e : Event) (s t : link.State) → t ≡ ready e s → length s.core.objects ≤ length t.core.objects
ready_objects e s t i = subst (λ (x : link.State). length s.core.objects ≤ length x.core.objects) (sym i) (by e)
  where
    by : (e : Event) → length s.core.objects ≤ length (ready e s).core.objects
    by unmade = omega arith
    by awaited = omega arith
    by (made o) = omega arith
    by refused = omega arith

-- what a handler's program left, before it is seen whether the root has died
abbrev pub before_rest : Happening → ℕ → Trees → Going → link.State
before_rest x n p g = by (ready g.event g.state)
  where
    by : link.State → link.State
    by s = followed (handling_run x g.event (scope_of s n) p s.core) s

pub takes_turn : (x : Happening) (n : ℕ) (p : Trees) (g h : Going) (s : link.State) (o : Outcome) → s ≡ handled x n p g → h.event ≡ event_then x g → Ends s (outcome_of o) h.state → EndsShort s o.digest h.state → TakesTurn x n p g (told_of o) h
takes_turn x n p g h s o e i ends short = record {
  ends = subst (λ t. Ends t (outcome_of o) h.state) e ends;
  short = subst (λ t. EndsShort t o.digest h.state) e short;
  event = i;
}

-- ---- the turn of a control

touch_objects : (c : Option ControlHere) (s : link.State) → (touch_run c s).core.objects ≡ s.core.objects
touch_objects None s = refl
touch_objects (Some c) s = refl

-- what it leaves, before it is seen whether the root has died
abbrev pub before_touch_rest : ℕ → Going → link.State
before_touch_rest n g = touch_run (control_at g.state n) (ready g.event g.state)

-- it makes no object
pub touched_grown : (n : ℕ) (g : Going) (t : link.State) → t ≡ touched n g → length g.state.core.objects ≤ length t.core.objects
touched_grown n g t i =
    let s = ready g.event g.state in
    let grown = ready_objects g.event g.state s refl in
    let same : length (before_touch_rest n g).core.objects ≡ length s.core.objects = ap length (touch_objects (control_at g.state n) s) in
    rested_grown (length g.state.core.objects) (before_touch_rest n g) t i (omega (arith, grown, same))

-- an event that stood stands
pub below_touched : (k m n : ℕ) (e f : code.Event) → event_seen f ≡ touched_then (event_seen e) → k ≤ m → m ≤ n → MadeBelow k e → MadeBelow n f
below_touched k m n e events.Unmade i l j h = tt
below_touched k m n e events.Awaited i l j h = tt
below_touched k m n e events.Refused i l j h = tt
below_touched k m n events.Unmade (events.Made o) i l j h = absurd (cc)
below_touched k m n events.Awaited (events.Made o) i l j h = absurd (cc)
below_touched k m n events.Refused (events.Made o) i l j h = absurd (cc)
below_touched k m n (events.Made p) (events.Made o) i l j h = let same : made o.0 ≡ made p.0 = i in let one : o.0 ≡ p.0 = cc in omega (arith, one, l, j, h)

pub touches : (n : ℕ) (g h : Going) (s : link.State) (o : Outcome) → s ≡ touched n g → h.event ≡ touched_then g.event → Ends s (outcome_of o) h.state → EndsShort s o.digest h.state → Touches n g (told_of o) h
touches n g h s o e i ends short = record {
  ends = subst (λ t. Ends t (outcome_of o) h.state) e ends;
  short = subst (λ t. EndsShort t o.digest h.state) e short;
  event = i;
}

-- what is said of an answer
pub if_ok : {T E : Type 0} {A B : T → Type 0} (r : Result T E) → IfOk r A → ((v : T) → A v → B v) → IfOk r B
if_ok (Ok v) a f = f v a
if_ok (Err e) a f = tt

pub if_ok_both : {T E : Type 0} {A B C : T → Type 0} (r : Result T E) → IfOk r A → IfOk r B → ((v : T) → A v → B v → C v) → IfOk r C
if_ok_both (Ok v) a b f = f v a b
if_ok_both (Err e) a b f = tt

pub on_ok_if : {T E C : Type 0} {A : T → Type 0} (r : Result T E) → IfOk r A → ((v : T) → A v → C) → OnOk r C
on_ok_if (Ok v) a f = f v a
on_ok_if (Err e) a f = tt
