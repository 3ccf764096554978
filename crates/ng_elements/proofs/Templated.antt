-- The templates of directives, one after another.
use Rattle.std.proofs.Common.{◌≡◌, ◌+◌, ℕ, zero, suc, Bool, true, false, cond, List, [], ◌∷◌, length, take, refl, ap, ◌∙◌, arith}
use Rattle.std.specs.List.{filter}
use Rattle.std.specs.Option.{option_map_or}
use Rattle.std.specs.Prelude.{slice_get}
use Rattle.ng_collect.specs.declared.definition.DirectiveDef.{DirectiveDef}
use Rattle.ng_elements.specs.Using.{asks_template}

module _ {X : Type 0} (test : X → Bool) where
  abbrev at : List X → ℕ → Bool
  at xs i = option_map_or test (slice_get xs i) false

  one_more : (x : X) (b : Bool) → length (cond b (x ∷ []) []) ≡ 0 + cond b 1 0
  one_more x true = refl
  one_more x false = refl

  then_more : (x : X) (b c : Bool) (f g : List X) → length f ≡ length g + cond c 1 0 → length (cond b (x ∷ f) f) ≡ length (cond b (x ∷ g) g) + cond c 1 0
  then_more x true c f g h = let up : suc (length f) ≡ suc (length g) + cond c 1 0 = omega (arith, h) in up
  then_more x false c f g h = h

  more : (xs : List X) (i : ℕ) → length (filter test (take (suc i) xs)) ≡ length (filter test (take i xs)) + cond (at xs i) 1 0
  more [] zero = refl
  more [] (suc i) = refl
  more (x ∷ xs) zero = one_more x (test x)
  more (x ∷ xs) (suc i) = then_more x (test x) (at xs i) (filter test (take (suc i) xs)) (filter test (take i xs)) (more xs i)

pub templates_more : (defs : List DirectiveDef) (i : ℕ) → length (filter asks_template (take (i + 1) defs)) ≡ length (filter asks_template (take i defs)) + cond (option_map_or asks_template (slice_get defs i) false) 1 0
templates_more defs i = let on : i + 1 ≡ suc i = omega arith in ap (λ n. length (filter asks_template (take n defs))) on ∙ more asks_template defs i
