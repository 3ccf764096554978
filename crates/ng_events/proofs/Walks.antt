-- Walks that are begun, go on and end.
use Rattle.std.proofs.Common.{◌≡◌, ◌<◌, ◌≤◌, ◌+◌, ◌-◌, ℕ, List, [], ◌∷◌, length, set, Option, Some, None, IsSome, refl, ap, sym, ◌∙◌, arith}
use Rattle.std.specs.BTreeMap.{BTreeMap}
use Rattle.ng_base.specs.declared.name.FunId.{FunId}
use Rattle.std.proofs.Common.{get_or-set_same, zero, suc, false}
use Rattle.std.specs.Prelude.{is_some}
use Rattle.ng_events.proofs.Changed.{change-same}
use Rattle.ng_chain.proofs.Sound.{no_walk}
use Rattle.ng_chain.specs.Walked.{Walked, walk_at, open_walks, IsRising}
use Rattle.ng_chain.specs.declared.chain.Span.{Span}
use Rattle.ng_behaviour.specs.Listeners.{Listener, RiseTo, heard_at}
use Rattle.ng_events.specs.declared.stands.Stand.{Stand}
use Rattle.ng_events.specs.declared.stands.Listener.{Listener as Registered}
use Rattle.ng_events.specs.declared.stands.Home.{Home}
use Rattle.ng_events.specs.declared.stands.EventWalk.{EventWalk}
use Rattle.ng_events.specs.declared.stands.EventWalk.TheVariants.{Bare, On}
use Rattle.ng_events.specs.Stands.{Table, IsOpen, open_of, all_heard, chain_at, change_chain, begun, walked, walks_on, open_on, put_walk, entries_of, Hears}
use Rattle.ng_events.specs.Sound.{IsSound, ArePlaces}
use Rattle.ng_events.proofs.Entries.{rising-seen}
use Rattle.ng_events.proofs.Changed.{change-length, change-keeps, heard-kept, heard-read, walks-put, place-kept, open-change, open-within, open-begun, open-gone, open-ended}
use Rattle.ng_events.proofs.Homes.{there-kept, known-kept}

alone-changed : (xs : List Stand) (i : ℕ) (f : Walked Registered → Walked Registered) → ArePlaces xs → ArePlaces (change_chain xs i f)
alone-changed xs i f a j h =
    let e = change-length xs i f in
    let z = a j (omega arith) in
    record { scope = z.scope; name = z.name; place = place-kept xs i z.scope z.name f ∙ z.place }

-- what no change of walks touches
sound-walks : (xs : List Stand) (names : BTreeMap ℕ (BTreeMap (List ℕ) ℕ)) (homes : BTreeMap ℕ Home) (w v b i : ℕ) (f : Walked Registered → Walked Registered) → ((c : Walked Registered) → (f c).entries ≡ c.entries) → IsSound xs names homes w b → v ≡ open_on (change_chain xs i f) + b → v ≤ 64 → IsSound (change_chain xs i f) names homes v b
sound-walks xs names homes w v b i f k s e l = record {
  places = λ r n. s.places r n ∙ sym (place-kept xs i r n f);
  alone = alone-changed xs i f s.alone;
  there = there-kept xs (change_chain xs i f) homes (let q = change-length xs i f in omega arith) (λ j. change-keeps (λ c. c.entries) xs i j f k) s.there;
  known = known-kept xs (change_chain xs i f) homes (λ j. change-keeps (λ c. c.entries) xs i j f k) s.known;
  counted = e;
  few = l;
}

pub begun-open : (xs : List Stand) (i k : ℕ) → i < length xs → k < length (walks_on xs i) → walk_at (walks_on xs i) k ≡ None → open_on (change_chain xs i (begun k)) ≡ open_on xs + 1
begun-open xs i k h l e =
    let o = open-change xs i (begun k) h in
    let s = open-begun (walks_on xs i) k (record { place = 0; end = (chain_at xs i).last }) l e in
    omega arith

pub sound-begun : (xs : List Stand) (names : BTreeMap ℕ (BTreeMap (List ℕ) ℕ)) (homes : BTreeMap ℕ Home) (w b i k : ℕ) → IsSound xs names homes w b → w < 64 → i < length xs → k < length (walks_on xs i) → walk_at (walks_on xs i) k ≡ None → IsSound (change_chain xs i (begun k)) names homes (w + 1) b
sound-begun xs names homes w b i k s t h l e =
    sound-walks xs names homes w (w + 1) b i (begun k) (λ c. refl) s (let o = begun-open xs i k h l e in let q = s.counted in omega arith) (omega arith)

pub begun-walks : (xs : List Stand) (i k : ℕ) → i < length xs → walks_on (change_chain xs i (begun k)) ≡ put_walk (walks_on xs) i k (Some (record { place = 0; end = (heard_at (all_heard xs) i).last }))
begun-walks xs i k h = walks-put xs i k (Some (record { place = 0; end = (heard_at (all_heard xs) i).last })) (begun k) h (ap (λ n. set (chain_at xs i).walks k (Some (record { place = 0; end = n }))) (sym (heard-read xs i).1))

pub begun-lists : (xs : List Stand) (i k : ℕ) → all_heard (change_chain xs i (begun k)) ≡ all_heard xs
begun-lists xs i k = heard-kept xs i (begun k) (λ c. refl) (λ c. refl)

pub heard-rising : (xs : List Stand) (i : ℕ) → IsRising 0 (chain_at xs i).last (chain_at xs i).entries → RiseTo 0 (heard_at (all_heard xs) i).last (heard_at (all_heard xs) i).entries
heard-rising xs i r = rw ((heard-read xs i).0, (heard-read xs i).1) (rising-seen (chain_at xs i).entries 0 (chain_at xs i).last r)

-- a list's walks are some of all
pub room : (xs : List Stand) (names : BTreeMap ℕ (BTreeMap (List ℕ) ℕ)) (homes : BTreeMap ℕ Home) (w b i : ℕ) → IsSound xs names homes w b → w < 64 → i < length xs → open_walks (walks_on xs i) ≡ 64 → ⊥
room xs names homes w b i s t h e = let q = open-within xs i h in let c = s.counted in omega arith

pub walked-lists : (xs : List Stand) (i k : ℕ) (w : Option Span) → all_heard (change_chain xs i (walked k w)) ≡ all_heard xs
walked-lists xs i k w = heard-kept xs i (walked k w) (λ c. refl) (λ c. refl)

pub walked-walks : (xs : List Stand) (i k : ℕ) (w : Option Span) → i < length xs → walks_on (change_chain xs i (walked k w)) ≡ put_walk (walks_on xs) i k w
walked-walks xs i k w h = walks-put xs i k w (walked k w) h refl

pub walked-open : (xs : List Stand) (i k : ℕ) (w : Option Span) → i < length xs → IsSome (walk_at (walks_on xs i) k) → IsSome w → open_on (change_chain xs i (walked k w)) ≡ open_on xs
walked-open xs i k w h o n = let e = open-change xs i (walked k w) h in let s = open-gone (walks_on xs i) k w o n in omega arith

pub sound-walked : (xs : List Stand) (names : BTreeMap ℕ (BTreeMap (List ℕ) ℕ)) (homes : BTreeMap ℕ Home) (w b i k : ℕ) (v : Option Span) → IsSound xs names homes w b → i < length xs → IsSome (walk_at (walks_on xs i) k) → IsSome v → IsSound (change_chain xs i (walked k v)) names homes w b
sound-walked xs names homes w b i k v s h o n = sound-walks xs names homes w w b i (walked k v) (λ c. refl) s (let e = walked-open xs i k v h o n in let q = s.counted in omega arith) s.few

pub ended-open : (xs : List Stand) (i k : ℕ) → i < length xs → IsSome (walk_at (walks_on xs i) k) → open_on (change_chain xs i (walked k None)) + 1 ≡ open_on xs
ended-open xs i k h o = let e = open-change xs i (walked k None) h in let s = open-ended (walks_on xs i) k o in omega arith

pub sound-ended : (xs : List Stand) (names : BTreeMap ℕ (BTreeMap (List ℕ) ℕ)) (homes : BTreeMap ℕ Home) (w b i k : ℕ) → IsSound xs names homes w b → i < length xs → IsSome (walk_at (walks_on xs i) k) → IsSound (change_chain xs i (walked k None)) names homes (w - 1) b
sound-ended xs names homes w b i k s h o =
    sound-walks xs names homes w (w - 1) b i (walked k None) (λ c. refl) s (let e = ended-open xs i k h o in let q = s.counted in omega arith) (let q = s.few in omega arith)

-- a walk that goes on is open
pub hears-open : (es : List (ℕ × Listener)) (w new : Option Span) (r : Option FunId) → IsSome w → Hears es w r new → IsSome new
hears-open es None new r o h = absurd (cc)
hears-open es (Some w) new None o h = rw h.1 refl
hears-open es (Some w) None (Some id) o h = absurd h
hears-open es (Some w) (Some v) (Some id) o h = refl

pub walked-hears : (xs : List Stand) (i : ℕ) (w new : Option Span) (r : Option FunId) → Hears (entries_of (chain_at xs i).entries) w r new → Hears (heard_at (all_heard xs) i).entries w r new
walked-hears xs i w new r h = rw (heard-read xs i).0 h

-- only a list that is there has an open walk
pub open-list : (xs : List Stand) (i k : ℕ) → IsSome (walk_at (walks_on xs i) k) → i < length xs
open-list [] i k h = absurd (let n : is_some (walk_at (walks_on [] i) k) ≡ false = ap is_some (no_walk k) in cc)
open-list (x ∷ xs) zero k h = omega arith
open-list (x ∷ xs) (suc i) k h = let r = open-list xs i k h in omega arith

-- a walk that was begun is open
pub begun-is_open : (xs : List Stand) (i k : ℕ) → i < length xs → k < length (walks_on xs i) → IsSome (walk_at (walks_on (change_chain xs i (begun k)) i) k)
begun-is_open xs i k h l =
    ap (λ (c : Walked Registered). is_some (walk_at c.walks k)) (change-same xs i (begun k) h)
    ∙ ap is_some (get_or-set_same (walks_on xs i) k (Some (record { place = 0; end = (chain_at xs i).last })) None l)

-- an open walk is one of those that are open
pub open-counted : (t : Table) (w : EventWalk) → IsOpen t w → 1 ≤ open_of t
open-counted t Bare o = let q : 0 < t.bare = o in omega arith
open-counted t (On i w) o = let e = ended-open t.stands i w.slot (open-list t.stands i w.slot o) o in omega arith
