-- Paths below others.
use Rattle.std.proofs.Common.{◌≡◌, ◌<◌, ℕ, Bool, true, false, List, [], ◌∷◌, ◌++◌, refl, ap, ◌∙◌, sym, length, arith, length-append}
use Rattle.std.specs.Ordering.{is_eq}
use Rattle.std.specs.declared.cmp.Ordering.TheVariants.{Less, Greater}
use Rattle.std.proofs.lemmas.Cmp.{tied_itself}
use Rattle.ng_base.specs.Order.{path_cmp, path_cmp_total}
use Rattle.ng_behaviour.specs.Keys.{begins}
use Rattle.ng_instances.specs.Instances.{is_path}
use Rattle.ng_link.specs.Standing.{IsBelow}
use Rattle.ng_build.proofs.Paths.{after_shorter, begins_more}
use Rattle.ng_instances.proofs.PathIs.{path_is}

pub same_path : (p : List ℕ) → is_path p p ≡ true
same_path p = ap is_eq (tied_itself path_cmp_total p)

pub is_that : (p q : List ℕ) → p ≡ q → is_path p q ≡ true
is_that p q e = rw e (same_path q)

pub other_path : (p q : List ℕ) → (p ≡ q → ⊥) → is_path p q ≡ false
other_path p q ne = by_test (is_path p q) refl
  where
    by_test : (b : Bool) → is_path p q ≡ b → b ≡ false
    by_test true e = absurd (ne (path_is p q e))
    by_test false e = refl

pub not_path : (p q : List ℕ) → is_path p q ≡ false → p ≡ q → ⊥
not_path p q e same = let two : true ≡ false = sym (is_that p q same) ∙ e in cc

-- a path before another in the order is another
pub less_other : (p q : List ℕ) → path_cmp p q ≡ Less → p ≡ q → ⊥
less_other p q e same = let two : true ≡ false = sym (is_that p q same) ∙ ap is_eq e in cc

-- a path is shorter than those below it, and is none of them
pub below_longer : (p q : List ℕ) → IsBelow p q → length p < length q
below_longer p q below =
    let many : length q ≡ length (p ++ (below.0 ++ below.1.0 ∷ [])) = ap (λ (r : List ℕ). length r) below.1.1 in
    omega (arith, many, length-append p (below.0 ++ below.1.0 ∷ []), length-append below.0 (below.1.0 ∷ []))

pub below_other : (p q : List ℕ) → IsBelow p q → p ≡ q → ⊥
below_other p q below same = let more = below_longer p q below in let many : length p ≡ length q = ap (λ (r : List ℕ). length r) same in omega (arith, more, many)

-- it is no path before it in the order
pub not_after : (p q : List ℕ) → path_cmp q p ≡ Less → IsBelow p q → ⊥
not_after p q less below = let two : Less ≡ Greater = sym less ∙ (ap (λ (r : List ℕ). path_cmp r p) below.1.1 ∙ after_shorter p below.0 below.1.0) in cc

-- a path below another begins with it
pub below_begins : (p q : List ℕ) → IsBelow p q → begins p q ≡ true
below_begins p q below = ap (begins p) below.1.1 ∙ begins_more p (below.0 ++ below.1.0 ∷ [])
