-- A list that is changed in its place.
use Rattle.std.proofs.Common.{◌≡◌, ◌<◌, ℕ, zero, suc, List, [], ◌∷◌, length, get_or, set, refl, ap, arith}
use Rattle.ng_chain.specs.Walked.{Walked}
use Rattle.ng_events.specs.declared.stands.Listener.{Listener as Registered}
use Rattle.ng_events.specs.declared.stands.Stand.{Stand}
use Rattle.ng_events.specs.Stands.{chain_at, change_chain}

pub chain-set : (xs : List Stand) (i : ℕ) (d y : Stand) (f : Walked Registered → Walked Registered) → i < length xs → y ≡ record { scope = (get_or xs i d).scope; name = (get_or xs i d).name; chain = f (get_or xs i d).chain } → set xs i y ≡ change_chain xs i f
chain-set [] i d y f h e = absurd (omega arith)
chain-set (x ∷ xs) zero d y f h e = ap (λ z. z ∷ xs) e
chain-set (x ∷ xs) (suc i) d y f h e = ap (λ zs. x ∷ zs) (chain-set xs i d y f (omega arith) e)

pub stand-same : (xs : List Stand) (i : ℕ) (d y : Stand) → i < length xs → y ≡ get_or xs i d → set xs i y ≡ xs
stand-same [] i d y h e = absurd (omega arith)
stand-same (x ∷ xs) zero d y h e = ap (λ z. z ∷ xs) e
stand-same (x ∷ xs) (suc i) d y h e = ap (λ zs. x ∷ zs) (stand-same xs i d y (omega arith) e)

pub chain-read : (xs : List Stand) (i : ℕ) (d : Stand) → i < length xs → chain_at xs i ≡ (get_or xs i d).chain
chain-read [] i d h = absurd (omega arith)
chain-read (x ∷ xs) zero d h = refl
chain-read (x ∷ xs) (suc i) d h = chain-read xs i d (omega arith)

pub chain-set_read : (xs : List Stand) (i : ℕ) (y : Stand) → i < length xs → chain_at (set xs i y) i ≡ y.chain
chain-set_read [] i y h = absurd (omega arith)
chain-set_read (x ∷ xs) zero y h = refl
chain-set_read (x ∷ xs) (suc i) y h = chain-set_read xs i y (omega arith)

pub ruleset writes = (chain-set, stand-same, chain-read, chain-set_read)
