-- The listeners that stand when a scope is reached have one turn each, and nobody else has one.
use Rattle.std.proofs.Common.{◌≡◌, ◌<◌, ◌≤◌, ◌+◌, ℕ, zero, suc, List, [], ◌∷◌, map, None, refl, ap, sym, ◌∙◌, arith, inl, inr, ◌⊎◌, ◌≢◌}
use Rattle.std.proofs.lemmas.Bool.{ne_eqb}
use Rattle.ng_behaviour.specs.Listeners.{Listener, stands_at, heard_at, RiseTo}
use Rattle.ng_core.specs.Events.{Event}
use Rattle.ng_act.specs.Asked.{Doing}
use Rattle.ng_act.specs.Emitting.{takes_turn, turns, upfrom}
use Rattle.ng_act.specs.Actions.{does}
use Rattle.ng_act_laws.specs.Laws.{EventLaw}
use Rattle.ng_core.specs.State.{State}
use Rattle.ng_act_laws.proofs.Later.{Later}
use Rattle.ng_act.proofs.Programs.{IsKept, turn-kept}
use Rattle.ng_act_laws.proofs.Thinner.{Thinner, thinner, does-thinner}
use Rattle.ng_act.proofs.Turns.{turn-none}

stands-low : (es : List (ℕ × Listener)) (j n r : ℕ) → RiseTo j n es → r ≤ j → stands_at es r ≡ None
stands-low [] j n r h l = refl
stands-low (e ∷ es) j n r h l =
    let a : j < e.0 = h.0 in
    rw (ne_eqb r e.0 (λ q. omega arith)) (stands-low es e.0 n r h.2 (omega arith))

stands-tail : (e : ℕ × Listener) (es : List (ℕ × Listener)) (r : ℕ) → (r ≡ e.0 → ⊥) → stands_at es r ≡ None → stands_at (e ∷ es) r ≡ None
stands-tail e es r n h = rw (ne_eqb r e.0 n) h

near : (a b : ℕ) → (a ≡ b) ⊎ (a ≢ b)
near a b = grind arith

-- the list that was copied has the turns of all places that were given: those where nobody stands then do nothing
copied : (go : Doing) → IsKept Thinner go → (e : Event) (sc i n p m : ℕ) (es : List (ℕ × Listener)) (s : State) → m ≡ p + n → RiseTo p m es → m ≤ (heard_at s.heard i).last
    → ((r : ℕ) → p < r → r ≤ m → stands_at es r ≡ None → stands_at (heard_at s.heard i).entries r ≡ None) → turns go e sc i (map (λ x. x.0) es) s ≡ turns go e sc i (upfrom p n) s
copied go th e sc i zero p m [] s q rise low none = refl
copied go th e sc i zero p m (x ∷ es) s q rise low none = absurd (let a : p < x.0 = rise.0 in let b : x.0 ≤ m = rise.1 in omega arith)
copied go th e sc i (suc n) p m [] s q rise low none =
    let same : takes_turn go e sc i (suc p) s ≡ s = turn-none go e sc i (suc p) s (none (suc p) (omega arith) (omega arith) refl) in
    copied go th e sc i n (suc p) m [] s (omega arith) rise low (λ r x y z. none r (omega arith) y z) ∙ ap (λ t. turns go e sc i (upfrom (suc p) n) t) (sym same)
copied go th e sc i (suc n) p m (x ∷ es) s q rise low none = elim (near x.0 (suc p)) [
  | inl here ↦
      let a : p < x.0 = rise.0 in
      let l : Later s.heard (takes_turn go e sc i (suc p) s).heard = (turn-kept Thinner thinner go th e sc i (suc p) s).later in
      let k : (heard_at s.heard i).last ≤ (heard_at (takes_turn go e sc i (suc p) s).heard i).last = l.lasts i in
      ap (λ (h : ℕ). turns go e sc i (map (λ (y : ℕ × Listener). y.0) es) (takes_turn go e sc i h s)) here ∙
      copied go th e sc i n (suc p) m es (takes_turn go e sc i (suc p) s) (omega arith) (rw here at rise.2) (omega arith)
      (λ r v y z. l.gone i r (omega arith) (none r (omega arith) y (stands-tail x es r (λ w. omega arith) z)))
  | inr other ↦
      let a : p < x.0 = rise.0 in
      let none_here : stands_at (x ∷ es) (suc p) ≡ None = stands-low (x ∷ es) (suc p) m (suc p) (omega arith, rise.1, rise.2) (omega arith) in
      let same : takes_turn go e sc i (suc p) s ≡ s = turn-none go e sc i (suc p) s (none (suc p) (omega arith) (omega arith) none_here) in
      copied go th e sc i n (suc p) m (x ∷ es) s (omega arith) (omega arith, rise.1, rise.2) low (λ r v y z. none r (omega arith) y z) ∙
      ap (λ t. turns go e sc i (upfrom (suc p) n) t) (sym same)
]

pub event_law : EventLaw
event_law room e sc i s rise =
    sym (copied (does room) (does-thinner room) e sc i (heard_at s.heard i).last 0 (heard_at s.heard i).last (heard_at s.heard i).entries s (omega arith) rise (omega arith) (λ r x y z. z))
