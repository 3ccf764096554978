-- How many nodes the fragments of templates have at most: a measure of composing.
use Rattle.std.proofs.Common.{◌≡◌, ◌≤◌, ◌<◌, ◌+◌, ◌-◌, ◌*◌, ℕ, zero, suc, List, [], ◌∷◌, Some, refl, ap, arith}
use Rattle.std.specs.Prelude.{slice_get}
use Rattle.ng_drawing.specs.Nodes.{nodes}
use Rattle.ng_drawing.specs.Template.{Fragment}
use Rattle.ng_drawing.specs.Named.{Named, fragment_in}

abbrev all_nodes : List Fragment → ℕ
all_nodes [] = 0
all_nodes (f ∷ fs) = nodes f.parts + all_nodes fs

abbrev pub largest : List Named → ℕ
largest [] = 0
largest (k ∷ ks) = all_nodes (k.1.own ∷ k.1.bodies) + largest ks

-- so much for each template that is entered
abbrev pub weight : ℕ → ℕ → ℕ
weight zero n = 0
weight (suc k) n = weight k n + (9 * n + 9)

one_within : (fs : List Fragment) (i : ℕ) (f : Fragment) → slice_get fs i ≡ Some f → nodes f.parts ≤ all_nodes fs
one_within [] i f e = absurd (cc)
one_within (g ∷ fs) zero f e = let same : g ≡ f = cc in let size = ap (λ (x : Fragment). nodes x.parts) same in omega (arith, size)
one_within (g ∷ fs) (suc i) f e = let h = one_within fs i f e in omega (arith, h)

pub fragment_within : (all : List Named) (t n : ℕ) (f : Fragment) → fragment_in all t n ≡ Some f → nodes f.parts ≤ largest all
fragment_within [] t n f e = absurd (cc)
fragment_within (k ∷ ks) zero n f e = let h = one_within (k.1.own ∷ k.1.bodies) n f e in omega (arith, h)
fragment_within (k ∷ ks) (suc t) n f e = let h = fragment_within ks t n f e in omega (arith, h)

-- one that is entered weighs less
pub enters : (all : List Named) (k n : ℕ) → n ≤ largest all → weight k (largest all) + 9 * n + 3 < weight (suc k) (largest all)
enters all k n l = let more : weight (suc k) (largest all) ≡ weight k (largest all) + (9 * largest all + 9) = refl in omega (arith, more, l)

pub weight_less : (k n : ℕ) → 0 < k → weight (suc (k - 1)) n ≡ weight k n
weight_less k n l = let e : suc (k - 1) ≡ k = omega (arith, l) in ap (λ j. weight j n) e
