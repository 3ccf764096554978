-- What a look-up in a list stands for.
use Rattle.std.proofs.Common.{◌≡◌, ◌<◌, ◌-◌, ℕ, zero, suc, List, [], ◌∷◌, map, length, Option, None, Some, refl, ap, sym, ◌∙◌, arith, Bor}
use Rattle.std.specs.Prelude.{option_map, unwrap_or, slice_get, slice_index_or}
use Rattle.std.proofs.lemmas.Option.{slice_get-map, slice_get_read, slice_get_past}
use Rattle.std.specs.Slice.{IsItemAt}

pub lookup_seen : {X Y : Type 0} (f : X → Y) (xs : List X) (i : ℕ) (r : Option (Bor X)) → IsItemAt xs i r → option_map (λ (x : Bor X). f x.now) r ≡ slice_get (map f xs) i
lookup_seen f xs i None h = sym (slice_get-map f xs i ∙ ap (option_map f) (slice_get_past xs i h.3))
lookup_seen f xs i (Some x) h = sym (slice_get-map f xs i ∙ ap (option_map f) (slice_get_read xs (length xs) i x.now refl h.3.0 h.1))

pub found_seen : {X : Type 0} (xs : List X) (i : ℕ) (r : Option (Bor X)) → IsItemAt xs i r → option_map (λ (x : Bor X). x.now) r ≡ slice_get xs i
found_seen xs i None h = sym (slice_get_past xs i h.3)
found_seen xs i (Some x) h = sym (slice_get_read xs (length xs) i x.now refl h.3.0 h.1)

-- after the first
pub after_first : {X : Type 0} (x : X) (xs : List X) (n : ℕ) → 0 < n → slice_get (x ∷ xs) n ≡ slice_get xs (n - 1)
after_first x xs n l = let e : n ≡ suc (n - 1) = omega arith in ap (slice_get (x ∷ xs)) e

-- what stands at a place, or else another
got : {X : Type 0} (xs : List X) (i : ℕ) (d : X) → unwrap_or (slice_get xs i) d ≡ slice_index_or xs i d
got [] zero d = refl
got [] (suc i) d = refl
got (x ∷ xs) zero d = refl
got (x ∷ xs) (suc i) d = got xs i d

pub got_or : {X : Type 0} (xs : List X) (i : ℕ) (d : X) (o : Option X) → o ≡ slice_get xs i → unwrap_or o d ≡ slice_index_or xs i d
got_or xs i d o e = ap (λ p. unwrap_or p d) e ∙ got xs i d
