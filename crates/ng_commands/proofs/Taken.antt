-- The front of a list, and one more of it.
use Rattle.std.proofs.Common.{◌≡◌, ◌∙◌, ◌+◌, ℕ, List, [], ◌∷◌, ◌++◌, take, slice_get, Some, ap, sym}
use Rattle.std.proofs.Math.Numerals.{suc-eq-add-one}
use Rattle.std.proofs.Math.Seq.{take-suc}
use Rattle.std.proofs.lemmas.Option.{get_or_from_slice_get, slice_get_within}
use Rattle.std.specs.List.{AllByRecursion}
use Rattle.ng_store.proofs.Sound.{all_append}

pub taken_more : {X : Type 0} (xs ys : List X) (i : ℕ) (v : X) → ys ≡ take i xs → slice_get xs i ≡ Some v → ys ++ v ∷ [] ≡ take (i + 1) xs
taken_more xs ys i v e g =
    ap (λ z. z ++ v ∷ []) e ∙ (ap (λ x. take i xs ++ x ∷ []) (sym (get_or_from_slice_get xs i v v g)) ∙ (sym (take-suc xs i v (slice_get_within xs i v g)) ∙ ap (λ n. take n xs) (suc-eq-add-one i)))

pub all_more : {X : Type 0} (P : X → Type 0) (xs : List X) (v : X) → AllByRecursion P xs → P v → AllByRecursion P (xs ++ v ∷ [])
all_more P xs v a p = all_append P xs (v ∷ []) a (p, tt)
