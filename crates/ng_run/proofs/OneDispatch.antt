-- A dispatch of an event is one: what its handlers did, and the state after.
use Rattle.std.proofs.Common.{◌≡◌, ℕ, Bool, true, false, List, [], ◌∷◌, ◌++◌, ap, sym, ◌∙◌, subst}
use Rattle.std.specs.Prelude.{Option, Result}
use Rattle.ng_base.specs.declared.fault.Fault.{Fault}
use Rattle.ng_behaviour.specs.Scopes.{live_at}
use Rattle.ng_digest.specs.declared.log.Report.{Report}
use Rattle.ng_digest.specs.declared.rounds.DigestFault.{DigestFault}
use Rattle.ng_language.specs.Trees.{Trees}
use Rattle.ng_link.specs.Events.{handlers_at}
use Rattle.ng_link.specs.State.{State}
use Rattle.ng_commands.specs.Handling.{Happening, Event, Going, way, has_turn, handled, has_touch, touched}
use Rattle.ng_page.specs.Dispatch.{Told, outcome_told, TakesTurn, MayTakeTurn, Handles, Touches, MayTouch, HandlesAt, is_stopped, Unless, Bubbles, before, Dispatches}
use Rattle.ng_page.specs.Steps.{Outcome}
use Rattle.ng_run.proofs.OneDigest.{answer_one, ends_one}

-- ---- one handler

abbrev told : ℕ → Option Fault → Option (Result Report DigestFault) → List (List ℕ) → Told
told count first digest probed = record { count = count; first = first; digest = digest; probed = probed }

same_told : (o p : Told) → o.count ≡ p.count → o.first ≡ p.first → o.digest ≡ p.digest → o.probed ≡ p.probed → o ≡ p
same_told o p e f g h =
    ap (λ x. told x o.first o.digest o.probed) e
    ∙ (ap (λ x. told p.count x o.digest o.probed) f
    ∙ (ap (λ x. told p.count p.first x o.probed) g
    ∙ ap (λ x. told p.count p.first p.digest x) h))

abbrev gone : State → Event → Going
gone s e = record { state = s; event = e }

same_going : (g h : Going) → g.state ≡ h.state → g.event ≡ h.event → g ≡ h
same_going g h e f = ap (λ s. gone s g.event) e ∙ ap (gone h.state) f

-- dispatches that come to the same: what was told, and how far they have come
abbrev AreOne : List Told → List Told → Going → Going → Type 0
AreOne os ps h k = (os ≡ ps) × (h ≡ k)

module _ (x : Happening) where
  turn_one : (n : ℕ) (p : Trees) (g : Going) (o q : Told) (h k : Going) → TakesTurn x n p g o h → TakesTurn x n p g q k → (o ≡ q) × (h ≡ k)
  turn_one n p g o q h k a b =
      let s = handled x n p g in
      let one = ends_one s (outcome_told o) (outcome_told q) h.state k.state a.ends b.ends in
      let digest = answer_one (live_at s.core.scopes 0) s o.digest q.digest h.state k.state (ap (λ (z : Outcome). z.digest) one.0) a.short b.short in (
        same_told o q (ap (λ (z : Outcome). z.count) one.0) (ap (λ (z : Outcome). z.first) one.0) digest (ap (λ (z : Outcome). z.probed) one.0),
        same_going h k one.1 (a.event ∙ sym b.event),
      )

  may_one : (b : Bool) (n : ℕ) (p : Trees) (g : Going) (os ps : List Told) (h k : Going) → MayTakeTurn b x n p g os h → MayTakeTurn b x n p g ps k → AreOne os ps h k
  may_one true n p g os ps h k (o, a, e) (q, b, f) = let one = turn_one n p g o q h k a b in (e ∙ (ap (λ (z : Told). z ∷ []) one.0 ∙ sym f), one.1)
  may_one false n p g os ps h k a b = (a.0 ∙ sym b.0, a.1 ∙ sym b.1)

  -- ---- one after another

  -- what was told first, and what was told then
  both_told : (os first rest ps front back : List Told) → os ≡ first ++ rest → ps ≡ front ++ back → first ≡ front → rest ≡ back → os ≡ ps
  both_told os first rest ps front back e f g h = e ∙ (ap (λ z. z ++ rest) g ∙ (ap (λ z. front ++ z) h ∙ sym f))

  handles_one : (n : ℕ) (programs : List Trees) (g : Going) (os ps : List Told) (h k : Going) → Handles x n programs g os h → Handles x n programs g ps k → AreOne os ps h k
  handles_one n [] g os ps h k a b = (a.0 ∙ sym b.0, a.1 ∙ sym b.1)
  handles_one n (p ∷ programs) g os ps h k (mid, first, rest, a, more, e) (half, front, back, b, further, f) =
      let one = may_one (has_turn n g) n p g first front mid half a b in
      let two = handles_one n programs mid rest back h k more (subst (λ (z : Going). Handles x n programs z back k) (sym one.1) further) in
      (both_told os first rest ps front back e f one.0 two.0, two.1)

  -- ---- at a node

  touch_one : (n : ℕ) (g : Going) (o q : Told) (h k : Going) → Touches n g o h → Touches n g q k → (o ≡ q) × (h ≡ k)
  touch_one n g o q h k a b =
      let s = touched n g in
      let one = ends_one s (outcome_told o) (outcome_told q) h.state k.state a.ends b.ends in
      let digest = answer_one (live_at s.core.scopes 0) s o.digest q.digest h.state k.state (ap (λ (z : Outcome). z.digest) one.0) a.short b.short in (
        same_told o q (ap (λ (z : Outcome). z.count) one.0) (ap (λ (z : Outcome). z.first) one.0) digest (ap (λ (z : Outcome). z.probed) one.0),
        same_going h k one.1 (a.event ∙ sym b.event),
      )

  may_touch_one : (b : Bool) (n : ℕ) (g : Going) (os ps : List Told) (h k : Going) → MayTouch b n g os h → MayTouch b n g ps k → AreOne os ps h k
  may_touch_one true n g os ps h k (o, a, e) (q, b, f) = let one = touch_one n g o q h k a b in (e ∙ (ap (λ (z : Told). z ∷ []) one.0 ∙ sym f), one.1)
  may_touch_one false n g os ps h k a b = (a.0 ∙ sym b.0, a.1 ∙ sym b.1)

  node_one : (n : ℕ) (g : Going) (os ps : List Told) (h k : Going) → HandlesAt x n g os h → HandlesAt x n g ps k → AreOne os ps h k
  node_one n g os ps h k (mid, first, rest, a, more, e) (half, front, back, b, further, f) =
      let programs = handlers_at g.state n x.type in
      let one = may_touch_one (has_touch x n g) n g first front mid half a b in
      let two = handles_one n programs mid rest back h k more (subst (λ (z : Going). Handles x n programs z back k) (sym one.1) further) in
      (both_told os first rest ps front back e f one.0 two.0, two.1)

  unless_one : (b : Bool) (Goes : Going → List Told → Going → Type 0) → ((g : Going) (os ps : List Told) (h k : Going) → Goes g os h → Goes g ps k → AreOne os ps h k)
      → (g : Going) (os ps : List Told) (h k : Going) → Unless b Goes g os h → Unless b Goes g ps k → AreOne os ps h k
  unless_one true Goes one g os ps h k a b = (a.0 ∙ sym b.0, a.1 ∙ sym b.1)
  unless_one false Goes one g os ps h k a b = one g os ps h k a b

  -- what goes on from a node, where bubbling isn't stopped
  abbrev GoesOn : ℕ → List ℕ → Going → List Told → Going → Type 0
  GoesOn n ns g os h = (mid : Going) × (first : List Told) × (rest : List Told) × HandlesAt x n g first mid × Bubbles x ns mid rest h × (os ≡ first ++ rest)

  -- one at a node, where what comes after it is one
  goes_on_one : (n : ℕ) (ns : List ℕ) → ((g : Going) (os ps : List Told) (h k : Going) → Bubbles x ns g os h → Bubbles x ns g ps k → AreOne os ps h k)
      → (g : Going) (os ps : List Told) (h k : Going) → GoesOn n ns g os h → GoesOn n ns g ps k → AreOne os ps h k
  goes_on_one n ns then_one g os ps h k (mid, first, rest, a, more, e) (half, front, back, b, further, f) =
      let one = node_one n g first front mid half a b in
      let two = then_one mid rest back h k more (subst (λ (z : Going). Bubbles x ns z back k) (sym one.1) further) in
      (both_told os first rest ps front back e f one.0 two.0, two.1)

  bubbles_one : (ns : List ℕ) (g : Going) (os ps : List Told) (h k : Going) → Bubbles x ns g os h → Bubbles x ns g ps k → AreOne os ps h k
  bubbles_one [] g os ps h k a b = (a.0 ∙ sym b.0, a.1 ∙ sym b.1)
  bubbles_one (n ∷ ns) g os ps h k a b = unless_one (is_stopped g) (GoesOn n ns) (goes_on_one n ns (bubbles_one ns)) g os ps h k a b

pub dispatch_one : (x : Happening) (n : ℕ) (s : State) (os ps : List Told) (t u : State) → Dispatches x n s os t → Dispatches x n s ps u → (os ≡ ps) × (t ≡ u)
dispatch_one x n s os ps t u (h, a, e) (k, b, f) =
    let one = bubbles_one x (way x.type n s) (before s) os ps h k a b in
    (one.0, e ∙ (ap (λ (z : Going). z.state) one.1 ∙ sym f))
