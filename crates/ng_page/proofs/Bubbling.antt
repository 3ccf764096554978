-- How far the handlers of a node, and the nodes of a way, have come.
use Rattle.std.proofs.Common.{◌≡◌, ◌∙◌, ℕ, Bool, true, false, List, [], ◌∷◌, ◌++◌, Option, Some, None, Result, Ok, Err, refl, ap, sym, subst, append_assoc, append-nil}
use Rattle.std.specs.Option.{option_or}
use Rattle.ng_digest.specs.declared.log.Report.{Report}
use Rattle.ng_digest.specs.declared.rounds.DigestFault.{DigestFault}
use Rattle.ng_language.specs.Trees.{Trees}
use Rattle.ng_link.specs.State as link
use Rattle.ng_page.specs.Answered.{WhenOk}
use Rattle.ng_commands.specs.Handling.{Happening, Event, Going, way, has_turn}
use Rattle.ng_page.specs.Dispatch.{Told, TakesTurn, MayTakeTurn, Handles, Touches, MayTouch, HandlesAt, is_stopped, Unless, Bubbles, before, Dispatches, last_digest}
use Rattle.ng_page.specs.Dispatched.{told_of, told_all, UnlessFailed}
use Rattle.ng_page.specs.EventSeen.{IsStill, last_of, LastIs, LastSettled}
use Rattle.ng_commands.specs.Settled.{IsSettled}
use Rattle.ng_page.specs.declared.dispatching.Dispatch.{Dispatch}
use Rattle.ng_page.specs.declared.engine.Engine.{Engine}
use Rattle.ng_page.specs.declared.outcome.Outcome.{Outcome}

-- ---- outcomes

told_more : (os ps : List Outcome) → told_all (os ++ ps) ≡ told_all os ++ told_all ps
told_more [] ps = refl
told_more (o ∷ os) ps = ap (λ xs. told_of o ∷ xs) (told_more os ps)

pub told_pushed : (os : List Outcome) (o : Outcome) → told_all (os ++ o ∷ []) ≡ told_all os ++ told_of o ∷ []
told_pushed os o = told_more os (o ∷ [])

last_pushed : (os : List Outcome) (o : Outcome) → last_of (os ++ o ∷ []) ≡ Some o
last_pushed [] o = refl
last_pushed (p ∷ []) o = refl
last_pushed (p ∷ q ∷ os) o = last_pushed (q ∷ os) o

pub pushed_settled : (os : List Outcome) (o : Outcome) (s : link.State) → UnlessFailed o.digest (IsSettled s) → LastSettled (os ++ o ∷ []) s
pushed_settled os o s h = subst (λ x. LastIs x s) (sym (last_pushed os o)) h

pub none_pushed : {A : Type 0} (xs : List A) (x : A) → xs ++ x ∷ [] ≡ [] → ⊥
none_pushed [] x e = cc
none_pushed (y ∷ xs) x e = cc

-- what the last digest that was made says, that of the last outcome says too
unless_any : (d : Option (Result Report DigestFault)) (P : Type 0) → P → UnlessFailed d P
unless_any None P p = p
unless_any (Some (Ok r)) P p = p
unless_any (Some (Err f)) P p = tt

unless_last : (d e : Option (Result Report DigestFault)) (P : Type 0) → UnlessFailed d P → UnlessFailed (option_or d e) P
unless_last None e P h = unless_any e P h
unless_last (Some r) e P h = h

last_unless : (o : Outcome) (os : List Outcome) (s : link.State) → LastIs (last_of (o ∷ os)) s → UnlessFailed (last_digest (told_all (o ∷ os))) (IsSettled s)
last_unless o [] s h = h
last_unless o (p ∷ os) s h = unless_last (last_digest (told_all (p ∷ os))) o.digest (IsSettled s) (last_unless p os s h)

when_unless : (d : Option (Result Report DigestFault)) (P : Type 0) → UnlessFailed d P → WhenOk d P
when_unless None P h = tt
when_unless (Some (Ok r)) P h = h
when_unless (Some (Err f)) P h = tt

pub last_settled : (os : List Outcome) (s : link.State) → LastSettled os s → WhenOk (last_digest (told_all os)) (IsSettled s)
last_settled [] s h = tt
last_settled (o ∷ os) s h = when_unless (last_digest (told_all (o ∷ os))) (IsSettled s) (last_unless o os s h)

-- ---- one handler

pub one_turn : (b : Bool) (x : Happening) (n : ℕ) (p : Trees) (g : Going) (o : Told) (h : Going) → b ≡ true → TakesTurn x n p g o h → MayTakeTurn b x n p g (o ∷ []) h
one_turn b x n p g o h e t = subst (λ u. MayTakeTurn u x n p g (o ∷ []) h) (sym e) (o, t, refl)

-- ---- the control of a node

pub one_touch : (b : Bool) (n : ℕ) (g : Going) (o : Told) (h : Going) → b ≡ true → Touches n g o h → MayTouch b n g (o ∷ []) h
one_touch b n g o h e t = subst (λ u. MayTouch u n g (o ∷ []) h) (sym e) (o, t, refl)

-- ---- still as before, where no handler ran

pub still_more : (old mid new : Dispatch) (a b c : Engine) → IsStill old mid a b → IsStill mid new b c → IsStill old new a c
still_more old mid new a b c h g none =
    let q : (c ≡ b) × (new ≡ mid) = g none in
    let r : (b ≡ a) × (mid ≡ old) = h (ap (λ (d : Dispatch). d.outcomes) (sym q.1) ∙ none) in
    (q.0 ∙ r.0, q.1 ∙ r.1)

-- ---- the handlers of a node

-- what those up to here did; and with what the others do it is what all do
pub record HandledSoFar (x : Happening) (n : ℕ) (all left : List Trees) (start now : Going) (before after : List Told) : Type 0 where
  pub done : List Told
  pub told : after ≡ before ++ done
  pub goes : (os : List Told) (h : Going) → Handles x n left now os h → Handles x n all start (done ++ os) h

pub none_handled : (x : Happening) (n : ℕ) (all : List Trees) (start : Going) (before : List Told) → HandledSoFar x n all all start start before before
none_handled x n all start before = record { done = []; told = sym (append-nil before); goes = λ os h t. t }

pub one_handled : (x : Happening) (n : ℕ) (all left : List Trees) (p : Trees) (start now mid : Going) (before after more first : List Told)
    → MayTakeTurn (has_turn n now) x n p now first mid → more ≡ after ++ first → HandledSoFar x n all (p ∷ left) start now before after → HandledSoFar x n all left start mid before more
one_handled x n all left p start now mid before after more first turn e h = record {
  done = h.done ++ first;
  told = e ∙ (ap (λ t. t ++ first) h.told ∙ append_assoc before h.done first);
  goes = λ os g t. subst (λ l. Handles x n all start l g) (sym (append_assoc h.done first os)) (h.goes (first ++ os) g (mid, first, os, turn, t, refl));
}

pub all_handled : (x : Happening) (n : ℕ) (all : List Trees) (start now : Going) (before after : List Told) → HandledSoFar x n all [] start now before after
    → (os : List Told) × Handles x n all start os now × (after ≡ before ++ os)
all_handled x n all start now before after h = (h.done, subst (λ l. Handles x n all start l now) (append-nil h.done) (h.goes [] now (refl, refl)), h.told)

-- ---- the nodes of a way

abbrev pub BubbledSoFar : Happening → List ℕ → List ℕ → Going → Going → List Told → Type 0
BubbledSoFar x all left start now done = (os : List Told) (h : Going) → Bubbles x left now os h → Bubbles x all start (done ++ os) h

pub stopped_here : (x : Happening) (all left : List ℕ) (start now : Going) (done : List Told) → BubbledSoFar x all left start now done → Bubbles x left now [] now → Bubbles x all start done now
stopped_here x all left start now done h t = subst (λ l. Bubbles x all start l now) (append-nil done) (h [] now t)

unless_stopped : (b : Bool) (Go : Going → List Told → Going → Type 0) (g : Going) → b ≡ true → Unless b Go g [] g
unless_stopped b Go g e = subst (λ t. Unless t Go g [] g) (sym e) (refl, refl)

-- what was done from node to node is what a dispatch does
pub dispatched_by : (x : Happening) (n : ℕ) (ns : List ℕ) (s t : link.State) (e : Event) (os : List Told) → ns ≡ way x.type n s → Bubbles x ns (before s) os (record { state = t; event = e }) → Dispatches x n s os t
dispatched_by x n ns s t e os i b = let h : Going = record { state = t; event = e } in (h, subst (λ l. Bubbles x l (before s) os h) i b, refl)

unless_going : (b : Bool) (Go : Going → List Told → Going → Type 0) (g h : Going) (os : List Told) → b ≡ false → Go g os h → Unless b Go g os h
unless_going b Go g h os e t = subst (λ u. Unless u Go g os h) (sym e) t

-- where bubbling has been stopped, no further node has its turn
pub bubbles_no_more : (x : Happening) (n : ℕ) (ns : List ℕ) (now : Going) → is_stopped now ≡ true → Bubbles x (n ∷ ns) now [] now
bubbles_no_more x n ns now e =
    unless_stopped (is_stopped now) (λ g os h. (mid : Going) × (first : List Told) × (rest : List Told) × HandlesAt x n g first mid × Bubbles x ns mid rest h × (os ≡ first ++ rest)) now e

bubbles_on : (x : Happening) (n : ℕ) (ns : List ℕ) (now mid h : Going) (first rest : List Told) → is_stopped now ≡ false → HandlesAt x n now first mid → Bubbles x ns mid rest h
    → Bubbles x (n ∷ ns) now (first ++ rest) h
bubbles_on x n ns now mid h first rest e t more =
    unless_going (is_stopped now) (λ g os h. (mid : Going) × (first : List Told) × (rest : List Told) × HandlesAt x n g first mid × Bubbles x ns mid rest h × (os ≡ first ++ rest)) now h (first ++ rest) e (mid, first, rest, t, more, refl)

pub one_bubbled : (x : Happening) (all ns : List ℕ) (n : ℕ) (start now mid : Going) (done more first : List Told) → is_stopped now ≡ false → HandlesAt x n now first mid → more ≡ done ++ first
    → BubbledSoFar x all (n ∷ ns) start now done → BubbledSoFar x all ns start mid more
one_bubbled x all ns n start now mid done more first e t is h os g rest =
    subst (λ l. Bubbles x all start l g) (sym (ap (λ l. l ++ os) is ∙ append_assoc done first os)) (h (first ++ os) g (bubbles_on x n ns now mid g first os e t rest))
