-- What a change of one list's chain does to what the table stands for.
use Rattle.std.proofs.Common.{◌≡◌, ◌<◌, ◌≤◌, ◌+◌, ◌&&◌, ℕ, zero, suc, Bool, true, false, cond, eqb, List, [], ◌∷◌, ◌++◌, length, set, Option, Some, None, IsSome, refl, ap, sym, ◌∙◌, arith}
use Rattle.std.specs.Prelude.{is_some, bytes_eq}
use Rattle.std.proofs.Math.Path.{fun_ext}
use Rattle.std.proofs.lemmas.List.Sums.{sum_by-set}
use Rattle.ng_chain.specs.Walked.{Walked, walk_at, open_walks}
use Rattle.ng_chain.specs.declared.chain.Span.{Span}
use Rattle.ng_behaviour.specs.Listeners.{Heard, hear_at, heard_at, place_of, place_from}
use Rattle.ng_events.specs.declared.stands.Listener.{Listener as Registered}
use Rattle.ng_events.specs.declared.stands.Stand.{Stand}
use Rattle.ng_events.specs.Stands.{heard, all_heard, chain_at, change_chain, walks_on, open_on, put_walk, no_chain, entries_of}

pub change-length : (xs : List Stand) (i : ℕ) (f : Walked Registered → Walked Registered) → length (change_chain xs i f) ≡ length xs
change-length [] i f = refl
change-length (x ∷ xs) zero f = refl
change-length (x ∷ xs) (suc i) f = ap suc (change-length xs i f)

pub change-same : (xs : List Stand) (i : ℕ) (f : Walked Registered → Walked Registered) → i < length xs → chain_at (change_chain xs i f) i ≡ f (chain_at xs i)
change-same [] i f h = absurd (omega arith)
change-same (x ∷ xs) zero f h = refl
change-same (x ∷ xs) (suc i) f h = change-same xs i f (omega arith)

pub change-other : (xs : List Stand) (i j : ℕ) (f : Walked Registered → Walked Registered) → (j ≡ i → ⊥) → chain_at (change_chain xs i f) j ≡ chain_at xs j
change-other [] i j f h = refl
change-other (x ∷ xs) zero zero f h = absurd (h refl)
change-other (x ∷ xs) zero (suc j) f h = refl
change-other (x ∷ xs) (suc i) zero f h = refl
change-other (x ∷ xs) (suc i) (suc j) f h = change-other xs i j f (λ e. h (ap suc e))

-- what no change of that kind touches
pub change-keeps : {A : Type 0} (g : Walked Registered → A) (xs : List Stand) (i j : ℕ) (f : Walked Registered → Walked Registered) → ((c : Walked Registered) → g (f c) ≡ g c) → g (chain_at (change_chain xs i f) j) ≡ g (chain_at xs j)
change-keeps g [] i j f h = refl
change-keeps g (x ∷ xs) zero zero f h = h x.chain
change-keeps g (x ∷ xs) zero (suc j) f h = refl
change-keeps g (x ∷ xs) (suc i) zero f h = refl
change-keeps g (x ∷ xs) (suc i) (suc j) f h = change-keeps g xs i j f h

-- the lists, where one is changed as its chain is
pub heard-change : (xs : List Stand) (i : ℕ) (f : Walked Registered → Walked Registered) (g : Heard → Heard) → ((s : ℕ) (n : List ℕ) → heard (record { scope = s; name = n; chain = f (chain_at xs i) }) ≡ g (heard (record { scope = s; name = n; chain = chain_at xs i }))) → all_heard (change_chain xs i f) ≡ hear_at (all_heard xs) i g
heard-change [] i f g h = refl
heard-change (x ∷ xs) zero f g h = ap (λ y. y ∷ all_heard xs) (h x.scope x.name)
heard-change (x ∷ xs) (suc i) f g h = ap (λ ys. heard x ∷ ys) (heard-change xs i f g h)

pub heard-kept : (xs : List Stand) (i : ℕ) (f : Walked Registered → Walked Registered) → ((c : Walked Registered) → (f c).entries ≡ c.entries) → ((c : Walked Registered) → (f c).last ≡ c.last) → all_heard (change_chain xs i f) ≡ all_heard xs
heard-kept [] i f h l = refl
heard-kept (x ∷ xs) zero f h l = ap (λ y. y ∷ all_heard xs) (ap (λ n. record { scope = x.scope; name = x.name; last = n; entries = entries_of (f x.chain).entries }) (l x.chain) ∙ ap (λ es. record { scope = x.scope; name = x.name; last = x.chain.last; entries = entries_of es }) (h x.chain))
heard-kept (x ∷ xs) (suc i) f h l = ap (λ ys. heard x ∷ ys) (heard-kept xs i f h l)

pub heard-push : (xs : List Stand) (y : Stand) → all_heard (xs ++ y ∷ []) ≡ all_heard xs ++ heard y ∷ []
heard-push [] y = refl
heard-push (x ∷ xs) y = ap (λ ys. heard x ∷ ys) (heard-push xs y)

pub heard-read : (xs : List Stand) (i : ℕ) → ((heard_at (all_heard xs) i).entries ≡ entries_of (chain_at xs i).entries) × ((heard_at (all_heard xs) i).last ≡ (chain_at xs i).last)
heard-read [] i = (refl, refl)
heard-read (x ∷ xs) zero = (refl, refl)
heard-read (x ∷ xs) (suc i) = heard-read xs i

pub heard-length : (xs : List Stand) → length (all_heard xs) ≡ length xs
heard-length [] = refl
heard-length (x ∷ xs) = ap suc (heard-length xs)

-- the walks
walks-kept_at : (xs : List Stand) (i : ℕ) (f : Walked Registered → Walked Registered) → ((c : Walked Registered) → (f c).walks ≡ c.walks) → (j : ℕ) → walks_on (change_chain xs i f) j ≡ walks_on xs j
walks-kept_at xs i f h j = change-keeps (λ c. c.walks) xs i j f h

pub walks-kept : (xs : List Stand) (i : ℕ) (f : Walked Registered → Walked Registered) → ((c : Walked Registered) → (f c).walks ≡ c.walks) → walks_on (change_chain xs i f) ≡ walks_on xs
walks-kept xs i f h = fun_ext (λ j. walks-kept_at xs i f h j)

walks-put_at : (xs : List Stand) (i k : ℕ) (w : Option Span) (f : Walked Registered → Walked Registered) → i < length xs → (f (chain_at xs i)).walks ≡ set (chain_at xs i).walks k w → (j : ℕ) → walks_on (change_chain xs i f) j ≡ put_walk (walks_on xs) i k w j
walks-put_at [] i k w f h e j = absurd (omega arith)
walks-put_at (x ∷ xs) zero k w f h e zero = e
walks-put_at (x ∷ xs) zero k w f h e (suc j) = refl
walks-put_at (x ∷ xs) (suc i) k w f h e zero = refl
walks-put_at (x ∷ xs) (suc i) k w f h e (suc j) = walks-put_at xs i k w f (omega arith) e j

pub walks-put : (xs : List Stand) (i k : ℕ) (w : Option Span) (f : Walked Registered → Walked Registered) → i < length xs → (f (chain_at xs i)).walks ≡ set (chain_at xs i).walks k w → walks_on (change_chain xs i f) ≡ put_walk (walks_on xs) i k w
walks-put xs i k w f h e = fun_ext (λ j. walks-put_at xs i k w f h e j)

chain-added_at : (xs : List Stand) (y : Stand) → y.chain ≡ no_chain → (j : ℕ) → chain_at (xs ++ y ∷ []) j ≡ chain_at xs j
chain-added_at [] y e zero = e
chain-added_at [] y e (suc j) = refl
chain-added_at (x ∷ xs) y e zero = refl
chain-added_at (x ∷ xs) y e (suc j) = chain-added_at xs y e j

pub chain-added : (xs : List Stand) (y : Stand) → y.chain ≡ no_chain → chain_at (xs ++ y ∷ []) ≡ chain_at xs
chain-added xs y e = fun_ext (λ j. chain-added_at xs y e j)

pub walks-chains : (xs ys : List Stand) → chain_at ys ≡ chain_at xs → walks_on ys ≡ walks_on xs
walks-chains xs ys e = fun_ext (λ j. ap (λ (f : ℕ → Walked Registered). (f j).walks) e)

-- the places
place-kept_from : (xs : List Stand) (i k s : ℕ) (n : List ℕ) (f : Walked Registered → Walked Registered) → place_from k (all_heard (change_chain xs i f)) s n ≡ place_from k (all_heard xs) s n
place-kept_from [] i k s n f = refl
place-kept_from (x ∷ xs) zero k s n f = refl
place-kept_from (x ∷ xs) (suc i) k s n f = ap (cond (eqb s x.scope && bytes_eq n x.name) (Some k)) (place-kept_from xs i (suc k) s n f)

pub place-kept : (xs : List Stand) (i s : ℕ) (n : List ℕ) (f : Walked Registered → Walked Registered) → place_of (all_heard (change_chain xs i f)) s n ≡ place_of (all_heard xs) s n
place-kept xs i s n f = place-kept_from xs i 0 s n f

place-within_from : (xs : List Stand) (k s i : ℕ) (n : List ℕ) → place_from k (all_heard xs) s n ≡ Some i → i < k + length xs
place-within_from [] k s i n e = absurd (cc)
place-within_from (x ∷ xs) k s i n e = by-test (eqb s x.scope && bytes_eq n x.name) refl (λ h. place-within_from xs (suc k) s i n h)
  where
    by-test : (b : Bool) → (eqb s x.scope && bytes_eq n x.name) ≡ b → (place_from (suc k) (all_heard xs) s n ≡ Some i → i < suc k + length xs) → i < k + length (x ∷ xs)
    by-test true q go = let z : Some k ≡ Some i = rw q at e in let y : k ≡ i = cc in omega arith
    by-test false q go = let z = go (rw q at e) in omega arith

pub place-within : (xs : List Stand) (s i : ℕ) (n : List ℕ) → place_of (all_heard xs) s n ≡ Some i → i < length xs
place-within xs s i n e = let z = place-within_from xs 0 s i n e in omega arith

-- one list more: those that had a place have it, and the new one's name is found last
abbrev pub or_new : Option ℕ → Bool → ℕ → Option ℕ
or_new (Some i) b k = Some i
or_new None b k = cond b (Some k) None

place-added_from : (xs : List Stand) (y : Stand) (k m s : ℕ) (n : List ℕ) → m ≡ k + length xs → place_from k (all_heard (xs ++ y ∷ [])) s n ≡ or_new (place_from k (all_heard xs) s n) (eqb s y.scope && bytes_eq n y.name) m
place-added_from [] y k m s n e = let q : k ≡ m = omega arith in ap (λ i. cond (eqb s y.scope && bytes_eq n y.name) (Some i) None) q
place-added_from (x ∷ xs) y k m s n e = by-test (eqb s x.scope && bytes_eq n x.name) (place-added_from xs y (suc k) m s n (omega arith))
  where
    by-test : (b : Bool) → place_from (suc k) (all_heard (xs ++ y ∷ [])) s n ≡ or_new (place_from (suc k) (all_heard xs) s n) (eqb s y.scope && bytes_eq n y.name) m → cond b (Some k) (place_from (suc k) (all_heard (xs ++ y ∷ [])) s n) ≡ or_new (cond b (Some k) (place_from (suc k) (all_heard xs) s n)) (eqb s y.scope && bytes_eq n y.name) m
    by-test true h = refl
    by-test false h = h

pub place-added : (xs : List Stand) (y : Stand) (s : ℕ) (n : List ℕ) → place_of (all_heard (xs ++ y ∷ [])) s n ≡ or_new (place_of (all_heard xs) s n) (eqb s y.scope && bytes_eq n y.name) (length xs)
place-added xs y s n = place-added_from xs y 0 (length xs) s n (omega arith)

-- how many walks are open
pub open-change : (xs : List Stand) (i : ℕ) (f : Walked Registered → Walked Registered) → i < length xs → open_on (change_chain xs i f) + open_walks (chain_at xs i).walks ≡ open_on xs + open_walks (f (chain_at xs i)).walks
open-change [] i f h = absurd (omega arith)
open-change (x ∷ xs) zero f h = omega arith
open-change (x ∷ xs) (suc i) f h = let e = open-change xs i f (omega arith) in omega arith

pub open-within : (xs : List Stand) (i : ℕ) → i < length xs → open_walks (chain_at xs i).walks ≤ open_on xs
open-within [] i h = absurd (omega arith)
open-within (x ∷ xs) zero h = omega arith
open-within (x ∷ xs) (suc i) h = let e = open-within xs i (omega arith) in omega arith

counts : Option Span → ℕ
counts w = cond (is_some w) 1 0

open-set : (ws : List (Option Span)) (k : ℕ) (v w : Option Span) → k < length ws → walk_at ws k ≡ v → open_walks (set ws k w) + counts v ≡ open_walks ws + counts w
unfolding counts
open-set ws k v w h e = ap (λ u. open_walks (set ws k w) + counts u) (sym e) ∙ sum_by-set (λ u. cond (is_some u) 1 0) ws k w None h

counts-none : counts None ≡ 0
unfolding counts
counts-none = refl

counts-some : (v : Option Span) → IsSome v → counts v ≡ 1
unfolding counts
counts-some None h = absurd (cc)
counts-some (Some v) h = refl

pub open-begun : (ws : List (Option Span)) (k : ℕ) (w : Span) → k < length ws → walk_at ws k ≡ None → open_walks (set ws k (Some w)) ≡ open_walks ws + 1
open-begun ws k w h e =
    let s = open-set ws k None (Some w) h e in
    let z = counts-none in
    let y = counts-some (Some w) refl in
    omega arith

walk-within : (ws : List (Option Span)) (k : ℕ) → IsSome (walk_at ws k) → k < length ws
walk-within [] k h = absurd (cc)
walk-within (x ∷ ws) zero h = omega arith
walk-within (x ∷ ws) (suc k) h = let z = walk-within ws k h in omega arith

pub open-gone : (ws : List (Option Span)) (k : ℕ) (w : Option Span) → IsSome (walk_at ws k) → IsSome w → open_walks (set ws k w) ≡ open_walks ws
open-gone ws k w o n =
    let s = open-set ws k (walk_at ws k) w (walk-within ws k o) refl in
    let z = counts-some (walk_at ws k) o in
    let y = counts-some w n in
    omega arith

pub open-ended : (ws : List (Option Span)) (k : ℕ) → IsSome (walk_at ws k) → open_walks (set ws k None) + 1 ≡ open_walks ws
open-ended ws k o =
    let s = open-set ws k (walk_at ws k) None (walk-within ws k o) refl in
    let z = counts-some (walk_at ws k) o in
    let y = counts-none in
    omega arith
