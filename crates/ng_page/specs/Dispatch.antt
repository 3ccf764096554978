-- Events of the document (API: ngClick; guide: Scopes, "Integration with the browser event loop"). An event is dispatched at a node.
-- Its handlers there have their turns, and then, where it bubbles, those of each element round it, from the inside out. Before those of a
-- `blur` the control that the node is loses the focus (API: ngModel).
use Rattle.std.specs.Prelude.{ℕ, ◌≡◌, Bool, true, false, List, [], ◌∷◌, ◌++◌, Option, None, option_map, Result}
use Rattle.std.specs.Option.{option_or}
use Rattle.ng_base.specs.declared.fault.Fault.{Fault}
use Rattle.ng_digest.specs.Early.{plain_answer}
use Rattle.ng_digest.specs.declared.log.Report.{Report}
use Rattle.ng_digest.specs.declared.rounds.DigestFault.{DigestFault}
use Rattle.ng_language.specs.Trees.{Trees}
use Rattle.ng_link.specs.Events.{handlers_at}
use Rattle.ng_link.specs.State.{State}
use Rattle.ng_commands.specs.EventObject.{is_cancelled}
use Rattle.ng_page.specs.Steps.{Outcome, Ends, EndsShort}
use Rattle.ng_commands.specs.Handling.{Happening, Going, handled, event_then, has_turn, Event, unmade, awaited, made, refused, touched, touched_then, has_touch, way}

-- What one handler did: how many faults it handed over, and the first; the answer of its digest with what that took; and the texts
-- of the probes.
pub record Told : Type 0 where
  pub count : ℕ
  pub first : Option Fault
  pub digest : Option (Result Report DigestFault)
  pub probed : List (List ℕ)

abbrev pub outcome_told : Told → Outcome
outcome_told o = record { count = o.count; first = o.first; digest = option_map plain_answer o.digest; probed = o.probed }

-- the turn of a handler: an `$apply` of its own
pub record TakesTurn (x : Happening) (n : ℕ) (p : Trees) (g : Going) (o : Told) (h : Going) : Type 0 where
  pub ends : Ends (handled x n p g) (outcome_told o) h.state
  pub short : EndsShort (handled x n p g) o.digest h.state
  pub event : h.event ≡ event_then x g

abbrev pub MayTakeTurn : Bool → Happening → ℕ → Trees → Going → List Told → Going → Type 0
MayTakeTurn true x n p g os h = (o : Told) × TakesTurn x n p g o h × (os ≡ o ∷ [])
MayTakeTurn false x n p g os h = (os ≡ []) × (h ≡ g)

-- the handlers of a node, in order
abbrev pub Handles : Happening → ℕ → List Trees → Going → List Told → Going → Type 0
Handles x n [] g os h = (os ≡ []) × (h ≡ g)
Handles x n (p ∷ ps) g os h =
    (mid : Going) × (first : List Told) × (rest : List Told) × MayTakeTurn (has_turn n g) x n p g first mid × Handles x n ps mid rest h × (os ≡ first ++ rest)

-- whether bubbling has been stopped: `cancelBubble` of `$event` counts as true (guide: `stopPropagation`)
abbrev pub is_stopped : Going → Bool
is_stopped g = by g.event
  where
    by : Event → Bool
    by unmade = false
    by awaited = false
    by (made o) = is_cancelled g.state.core.objects o
    by refused = false

pub record Touches (n : ℕ) (g : Going) (o : Told) (h : Going) : Type 0 where
  pub ends : Ends (touched n g) (outcome_told o) h.state
  pub short : EndsShort (touched n g) o.digest h.state
  pub event : h.event ≡ touched_then g.event

abbrev pub MayTouch : Bool → ℕ → Going → List Told → Going → Type 0
MayTouch true n g os h = (o : Told) × Touches n g o h × (os ≡ o ∷ [])
MayTouch false n g os h = (os ≡ []) × (h ≡ g)

-- what an event does at a node: the control's turn, and then those of the handlers
abbrev pub HandlesAt : Happening → ℕ → Going → List Told → Going → Type 0
HandlesAt x n g os h =
    (mid : Going) × (first : List Told) × (rest : List Told) × MayTouch (has_touch x n g) n g first mid × Handles x n (handlers_at g.state n x.type) mid rest h × (os ≡ first ++ rest)

abbrev pub Unless : Bool → (Going → List Told → Going → Type 0) → Going → List Told → Going → Type 0
Unless true Goes g os h = (os ≡ []) × (h ≡ g)
Unless false Goes g os h = Goes g os h

-- from node to node, until bubbling is stopped; the handlers of one node all have their turns
abbrev pub Bubbles : Happening → List ℕ → Going → List Told → Going → Type 0
Bubbles x [] g os h = (os ≡ []) × (h ≡ g)
Bubbles x (n ∷ ns) g os h =
    Unless (is_stopped g) (λ g os h. (mid : Going) × (first : List Told) × (rest : List Told) × HandlesAt x n g first mid × Bubbles x ns mid rest h × (os ≡ first ++ rest)) g os h

abbrev pub before : State → Going
before s = record { state = s; event = unmade }

-- An event is dispatched at a node: what each handler that ran did, and the state after. Where none ran the state is as before.
abbrev pub Dispatches : Happening → ℕ → State → List Told → State → Type 0
Dispatches x n s os t = (h : Going) × Bubbles x (way x.type n s) (before s) os h × (t ≡ h.state)

-- the digest that was made last
abbrev pub last_digest : List Told → Option (Result Report DigestFault)
last_digest [] = None
last_digest (o ∷ os) = option_or (last_digest os) o.digest
