-- The turns of a walk, and the walks that stay open round it.
use Rattle.std.proofs.Common.{◌≡◌, ◌<◌, ◌≤◌, ◌+◌, ◌-◌, ℕ, zero, suc, Bool, true, false, List, length, set, Option, Some, None, IsSome, refl, ap, sym, ◌∙◌, arith, cond, option_map}
use Rattle.std.specs.Prelude.{option_and_then}
use Rattle.std.proofs.lemmas.List.{set-set, set-get_or, get_or-set_same}
use Rattle.std.proofs.Math.Path.{fun_ext}
use Rattle.ng_base.specs.declared.name.FunId.{FunId}
use Rattle.ng_behaviour.specs.Listeners.{Listener, stands_at, heard_at, called, place_of, NobodyAhead}
use Rattle.ng_behaviour.specs.Scopes.{live_at}
use Rattle.ng_chain.specs.Walked.{walk_at}
use Rattle.ng_chain.specs.declared.chain.Span.{Span}
use Rattle.ng_events.specs.Stands.{Table, IsOpen, Begins, Goes, Ends, Hears, lists_of, walks_at, put_walk, is_at}
use Rattle.ng_events.specs.declared.stands.EventWalk.{EventWalk}
use Rattle.ng_events.specs.declared.stands.EventWalk.TheVariants.{Bare, On}
use Rattle.ng_core.specs.Events.{Event}
use Rattle.ng_act.specs.Asked.{Doing}
use Rattle.ng_act.specs.Emitting.{turned, takes_turn, turns, upfrom, visited}
use Rattle.ng_act.specs.Actions.{does}
use Rattle.ng_core.specs.State.{State, with_heard}
use Rattle.ng_act.specs.Turns.{left_turns, walk_turns, closed, left_of, ahead_of}

-- opening, moving and closing a walk
both : (b : Bool) (xs : List (Option Span)) (k : ℕ) (v w : Option Span) → cond b (set (cond b (set xs k v) xs) k w) (cond b (set xs k v) xs) ≡ cond b (set xs k w) xs
both true xs k v w = set-set xs k v w
both false xs k v w = refl

pub put-put : (ws : ℕ → List (Option Span)) (i k : ℕ) (v w : Option Span) → put_walk (put_walk ws i k v) i k w ≡ put_walk ws i k w
put-put ws i k v w = fun_ext (λ j. both (is_at i j) (ws j) k v w)

put-none_at : (ws : ℕ → List (Option Span)) (i k : ℕ) → walk_at (ws i) k ≡ None → (j : ℕ) → put_walk ws i k None j ≡ ws j
put-none_at ws zero k h zero = ap (λ w. set (ws 0) k w) (sym h) ∙ set-get_or (ws 0) k None
put-none_at ws zero k h (suc j) = refl
put-none_at ws (suc i) k h zero = refl
put-none_at ws (suc i) k h (suc j) = put-none_at (λ m. ws (suc m)) i k h j

pub put-none : (ws : ℕ → List (Option Span)) (i k : ℕ) → walk_at (ws i) k ≡ None → put_walk ws i k None ≡ ws
put-none ws i k h = fun_ext (λ j. put-none_at ws i k h j)

pub put-read : (ws : ℕ → List (Option Span)) (i k : ℕ) (w : Option Span) → k < length (ws i) → walk_at (put_walk ws i k w i) k ≡ w
put-read ws zero k w h = get_or-set_same (ws 0) k w None h
put-read ws (suc i) k w h = put-read (λ m. ws (suc m)) i k w h

-- a walk that has begun and is closed leaves the walks as they were
pub closed_begun : (t u : Table) (s : ℕ) (n : List ℕ) (w : EventWalk) → Begins t s n w u → closed u w ≡ walks_at t
closed_begun t u s n Bare b = b.2
closed_begun t u s n (On i w) b =
    ap (λ ws. put_walk ws i w.slot None) b.5 ∙ (put-put (walks_at t) i w.slot _ None ∙ put-none (walks_at t) i w.slot b.3)

-- a walk that goes on, with the others as they were
pub closed_gone : (t u : Table) (w : EventWalk) (r : Option FunId) → Goes t w r u → closed u w ≡ closed t w
closed_gone t u Bare r g = g.1
closed_gone t u (On i w) r g = ap (λ ws. put_walk ws i w.slot None) g.1 ∙ put-put (walks_at t) i w.slot _ None

pub closed_ended : (t u : Table) (w : EventWalk) → Ends t w u → walks_at u ≡ closed t w
closed_ended t u Bare e = e.1
closed_ended t u (On i w) e = e.1

pub closed_same : (t u : Table) (w : EventWalk) → walks_at u ≡ walks_at t → closed u w ≡ closed t w
closed_same t u Bare e = e
closed_same t u (On i w) e = ap (λ ws. put_walk ws i w.slot None) e

pub bare_ended : (t u v : Table) (s : ℕ) (n : List ℕ) (w : EventWalk) → Begins t s n w u → (x : Table) → v.bare ≡ u.bare → Ends v w x → x.bare ≡ t.bare
bare_ended t u v s n Bare b x e h = let p = b.1 in let q = h.0 in omega arith
bare_ended t u v s n (On i w) b x e h = h.0 ∙ (e ∙ b.2)

pub open_same : (t u : Table) (w : EventWalk) → walks_at u ≡ walks_at t → u.bare ≡ t.bare → IsOpen t w → IsOpen u w
open_same t u Bare e b o = rw b o
open_same t u (On i w) e b o = rw (ap (λ f. f i) e) o

-- what stands under a place is called by its name
pub turn_called : (go : Doing) (e : Event) (sc i k : ℕ) (s : State) (id : ℕ) → option_map (λ (l : Listener). l.id) (stands_at (heard_at s.heard i).entries k) ≡ Some id → takes_turn go e sc i k s ≡ turned go e sc (live_at s.scopes sc) (called s.heard id) s
turn_called go e sc i k s id h = by (stands_at (heard_at s.heard i).entries k) h
  where
    by : (o : Option Listener) → option_map (λ (l : Listener). l.id) o ≡ Some id
        → turned go e sc (live_at s.scopes sc) (option_and_then (λ (l : Listener). called s.heard l.id) o) s ≡ turned go e sc (live_at s.scopes sc) (called s.heard id) s
    by None q = absurd (cc)
    by (Some l) q = let p : l.id ≡ id = cc in ap (λ j. turned go e sc (live_at s.scopes sc) (called s.heard j) s) p

pub turn-none : (go : Doing) (e : Event) (sc i k : ℕ) (s : State) → stands_at (heard_at s.heard i).entries k ≡ None → takes_turn go e sc i k s ≡ s
turn-none go e sc i k s h = rw h refl

-- turns of listeners that don't stand do nothing
turns-skip : (go : Doing) (e : Event) (sc i m p n : ℕ) (s : State) → ((r : ℕ) → p < r → r ≤ p + m → stands_at (heard_at s.heard i).entries r ≡ None)
    → turns go e sc i (upfrom p (m + n)) s ≡ turns go e sc i (upfrom (p + m) n) s
turns-skip go e sc i zero p n s h =
    let a : 0 + n ≡ n = omega arith in
    let b : p + 0 ≡ p = omega arith in
    rw (a, b) refl
turns-skip go e sc i (suc m) p n s h =
    let a : suc m + n ≡ suc (m + n) = omega arith in
    let b : p + suc m ≡ suc p + m = omega arith in
    rw (a, b)
    (ap (λ t. turns go e sc i (upfrom (suc p) (m + n)) t) (turn-none go e sc i (suc p) s (h (suc p) (omega arith) (omega arith))) ∙
    turns-skip go e sc i m (suc p) n s (λ r x y. h r (omega arith) (omega arith)))

turns_step : (go : Doing) (e : Event) (sc i : ℕ) (s : State) (w v : Span) (id : FunId) → Hears (heard_at s.heard i).entries (Some w) (Some id) (Some v)
    → left_turns go e sc i (Some w) s ≡ left_turns go e sc i (Some v) (turned go e sc (live_at s.scopes sc) (called s.heard id.0) s)
turns_step go e sc i s w v id h =
    let a : w.place < v.place = h.0.above in
    let b : v.place ≤ w.end = h.0.within in
    let q : v.end ≡ w.end = h.1 in
    let d : w.end - w.place ≡ (v.place - w.place - 1) + suc (w.end - v.place) = omega arith in
    let f : suc (w.place + (v.place - w.place - 1)) ≡ v.place = omega arith in
    rw (q, d)
    (turns-skip go e sc i (v.place - w.place - 1) w.place (suc (w.end - v.place)) s (λ r x y. h.0.least r x (omega arith)) ∙
    (ap (λ (q : ℕ). turns go e sc i (upfrom q (w.end - v.place)) (takes_turn go e sc i q s)) f ∙
    ap (λ t. turns go e sc i (upfrom v.place (w.end - v.place)) t) (turn_called go e sc i v.place s id.0 h.2)))

turns_end : (go : Doing) (e : Event) (sc i : ℕ) (s : State) (w : Span) → NobodyAhead (heard_at s.heard i).entries w.place w.end → left_turns go e sc i (Some w) s ≡ s
turns_end go e sc i s w h =
    let q : w.end - w.place ≡ (w.end - w.place) + 0 = omega arith in
    ap (λ (m : ℕ). turns go e sc i (upfrom w.place m) s) q ∙
    turns-skip go e sc i (w.end - w.place) w.place 0 s (λ r x y. h r x (omega arith))

left_step : (go : Doing) (e : Event) (sc i : ℕ) (s : State) (w v : Option Span) (id : FunId) → IsSome w → Hears (heard_at s.heard i).entries w (Some id) v
    → left_turns go e sc i w s ≡ left_turns go e sc i v (turned go e sc (live_at s.scopes sc) (called s.heard id.0) s)
left_step go e sc i s None v id o h = absurd (cc)
left_step go e sc i s (Some w) None id o h = absurd h
left_step go e sc i s (Some w) (Some v) id o h = turns_step go e sc i s w v id h

left_end : (go : Doing) (e : Event) (sc i : ℕ) (s : State) (w v : Option Span) → IsSome w → Hears (heard_at s.heard i).entries w None v → left_turns go e sc i w s ≡ s
left_end go e sc i s None v o h = absurd (cc)
left_end go e sc i s (Some w) v o h = turns_end go e sc i s w h.0

none-some : (id : FunId) → (let r : Option FunId = Some id in r ≡ None) → ⊥
none-some id h = cc

walk_step : (go : Doing) (e : Event) (sc : ℕ) (t u v : Table) (w : EventWalk) (id : FunId) (s : State) → IsOpen t w → Goes t w (Some id) u → s.heard ≡ lists_of t → walks_at v ≡ walks_at u
    → walk_turns go e sc t w s ≡ walk_turns go e sc v w (turned go e sc (live_at s.scopes sc) (called s.heard id.0) s)
walk_step go e sc t u v Bare id s o g h q = absurd (none-some id g.0)
walk_step go e sc t u v (On i w) id s o g h q =
    let k : Hears (heard_at s.heard i).entries (walk_at (walks_at t i) w.slot) (Some id) (walk_at (walks_at v i) w.slot) = rw (h, ap (λ f. f i) q) g.0 in
    left_step go e sc i s (walk_at (walks_at t i) w.slot) (walk_at (walks_at v i) w.slot) id o k

pub turn_kept : (d0 d : ℕ) (e : Event) (sc : ℕ) (t u v : Table) (w : EventWalk) (id : FunId) (s s1 s2 x : State) → walk_turns (does (64 - d0)) e sc t w s ≡ x → d ≡ d0 → s1 ≡ s → walks_at v ≡ walks_at u → IsOpen t w
    → Goes t w (Some id) u → s.heard ≡ lists_of t → s2 ≡ turned (does (64 - d)) e sc (live_at s1.scopes sc) (called s1.heard id.0) s1 → walk_turns (does (64 - d0)) e sc v w s2 ≡ x
turn_kept d0 d e sc t u v w id s s1 s2 x inv ed es eu o g eh run =
    rw (run, ed, es) (sym (walk_step (does (64 - d0)) e sc t u v w id s o g eh eu) ∙ inv)

pub walk_end : (go : Doing) (e : Event) (sc : ℕ) (t u : Table) (w : EventWalk) (s : State) → IsOpen t w → Goes t w None u → s.heard ≡ lists_of t → walk_turns go e sc t w s ≡ s
walk_end go e sc t u Bare s o g h = refl
walk_end go e sc t u (On i w) s o g h =
    let k : Hears (heard_at s.heard i).entries (walk_at (walks_at t i) w.slot) None (walk_at (walks_at u i) w.slot) = rw h g.0 in
    left_end go e sc i s (walk_at (walks_at t i) w.slot) (walk_at (walks_at u i) w.slot) o k

-- after a step less is ahead
left_falls : (es : List (ℕ × Listener)) (w v : Option Span) (id : FunId) → IsSome w → Hears es w (Some id) v → left_of v < left_of w
left_falls es None v id o h = absurd (cc)
left_falls es (Some w) None id o h = absurd h
left_falls es (Some w) (Some v) id o h =
    let a : w.place < v.place = h.0.above in
    let b : v.place ≤ w.end = h.0.within in
    let q : v.end ≡ w.end = h.1 in
    omega arith

pub ahead_falls : (t u v : Table) (w : EventWalk) (id : FunId) → IsOpen t w → Goes t w (Some id) u → walks_at v ≡ walks_at u → ahead_of v w < ahead_of t w
ahead_falls t u v Bare id o g q = absurd (none-some id g.0)
ahead_falls t u v (On i w) id o g q =
    let k : Hears (heard_at (lists_of t) i).entries (walk_at (walks_at t i) w.slot) (Some id) (walk_at (walks_at v i) w.slot) = rw (ap (λ f. f i) q) g.0 in
    left_falls (heard_at (lists_of t) i).entries (walk_at (walks_at t i) w.slot) (walk_at (walks_at v i) w.slot) id o k

-- a walk that has begun has all places ahead that were given until then
pub walk_begun : (go : Doing) (e : Event) (sc : ℕ) (t u : Table) (n : List ℕ) (w : EventWalk) (s : State) → Begins t sc n w u → s.heard ≡ lists_of t → walk_turns go e sc u w s ≡ visited go e sc (place_of s.heard sc n) s
walk_begun go e sc t u n Bare s b h = rw (h, b.0) refl
walk_begun go e sc t u n (On i w) s b h =
    let r : walk_at (walks_at u i) w.slot ≡ Some (record { place = 0; end = (heard_at (lists_of t) i).last }) = ap (λ ws. walk_at (ws i) w.slot) b.5 ∙ put-read (walks_at t) i w.slot _ b.4 in
    let n0 : (heard_at (lists_of t) i).last - 0 ≡ (heard_at (lists_of t) i).last = omega arith in
    rw (r, h, b.0) (ap (λ (k : ℕ). turns go e sc i (upfrom 0 k) (with_heard (lists_of t) s)) n0)
