-- An object that is changed leaves as many.
use Rattle.std.proofs.Common.{◌≡◌, ℕ, zero, suc, List, [], ◌∷◌, length, refl, ap}
use Rattle.ng_base.specs.Objects.{Object}
use Rattle.ng_language.specs.Objects.{update_at}

pub update-length : (xs : List Object) (o : ℕ) (f : Object → Object) → length (update_at xs o f) ≡ length xs
update-length [] o f = refl
update-length (x ∷ xs) zero f = refl
update-length (x ∷ xs) (suc o) f = ap suc (update-length xs o f)

pub ruleset kept = (update-length)
