-- A name that is found by a name is the same.
use Rattle.std.proofs.Common.{◌≡◌, ℕ, Bool, true, false, List, [], ◌∷◌, Option, Some, refl, sym, ◌∙◌, bytes_eq, cond}
use Rattle.std.specs.List.{find}
use Rattle.std.proofs.lemmas.Slice.Eq.{bytes_eq-Decides}

found_here : (name x y : List ℕ) (rest : Option (List ℕ)) (b : Bool) → bytes_eq name x ≡ b → (rest ≡ Some y → y ≡ name) → cond b (Some x) rest ≡ Some y → y ≡ name
found_here name x y rest true e later h =
    let same : Some x ≡ Some y = h in
    let here : x ≡ y = cc same in
    sym here ∙ sym ((bytes_eq-Decides name x).0 e)
found_here name x y rest false e later h = later h

pub found_same : (name y : List ℕ) (xs : List (List ℕ)) → find (bytes_eq name) xs ≡ Some y → y ≡ name
found_same name y [] h = absurd (cc)
found_same name y (x ∷ xs) h = found_here name x y (find (bytes_eq name) xs) (bytes_eq name x) refl (found_same name y xs) h
