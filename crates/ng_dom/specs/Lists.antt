-- Places in lists.
use Rattle.std.specs.Prelude.{ℕ, zero, suc, ◌==◌, Bool, true, false, if◌then◌else◌, List, [], ◌∷◌}

-- put before the i-th, or at the end where there are fewer
abbrev pub put_at : {X : Type 0} → ℕ → X → List X → List X
put_at zero x xs = x ∷ xs
put_at (suc i) x [] = x ∷ []
put_at (suc i) x (y ∷ ys) = y ∷ put_at i x ys

-- the i-th is taken out
abbrev pub without_at : {X : Type 0} → ℕ → List X → List X
without_at i [] = []
without_at zero (y ∷ ys) = ys
without_at (suc i) (y ∷ ys) = y ∷ without_at i ys

-- the i-th of some lists, or none
abbrev pub list_at : {X : Type 0} → ℕ → List (List X) → List X
list_at i [] = []
list_at zero (y ∷ ys) = y
list_at (suc i) (y ∷ ys) = list_at i ys

-- the lists of these places, in this order
abbrev pub lists_at : {X : Type 0} → List ℕ → List (List X) → List (List X)
lists_at [] ys = []
lists_at (i ∷ is) ys = list_at i ys ∷ lists_at is ys

abbrev pub among : ℕ → List ℕ → Bool
among n [] = false
among n (k ∷ ks) = if k == n then true else among n ks

-- the first of these is taken out
abbrev pub without_first : ℕ → List ℕ → List ℕ
without_first n [] = []
without_first n (k ∷ ks) = if k == n then ks else k ∷ without_first n ks

-- taken out, and put before the i-th of the others
abbrev pub moved_to : ℕ → ℕ → List ℕ → List ℕ
moved_to i n ks = if among n ks then put_at i n (without_first n ks) else ks

-- this in place of what was there
abbrev pub filled_with : {X : Type 0} → X → X → X
filled_with x y = x

-- the i-th of some lists has nothing any more
abbrev pub emptied_at : {X : Type 0} → ℕ → List (List X) → List (List X)
emptied_at i [] = []
emptied_at zero (y ∷ ys) = [] ∷ ys
emptied_at (suc i) (y ∷ ys) = y ∷ emptied_at i ys
