-- What bodies come to together, by their paths: as much where the same paths stand as often.
use Rattle.std.proofs.Common.{◌≡◌, ◌+◌, ◌<◌, ℕ, Bool, true, false, cond, List, [], ◌∷◌, refl, ap, sym, arith}
use Rattle.ng_link.specs.Arranging.{Rearranges}
use Rattle.ng_instances.specs.Instances.{Body, is_path}
use Rattle.ng_link.specs.Standing.{body_count}
use Rattle.ng_instances.proofs.PathIs.{path_is}
use Rattle.ng_link.proofs.PathsBelow.{same_path}

module _ (f : List ℕ → ℕ) where
  abbrev pub sum_of : List Body → ℕ
  sum_of [] = 0
  sum_of (b ∷ bs) = f b.path + sum_of bs

  -- one of a path taken out
  take_one : (p : List ℕ) (cs : List Body) → 0 < body_count p cs → (rest : List Body) × (sum_of cs ≡ f p + sum_of rest) × ((q : List ℕ) → body_count q cs ≡ cond {A = ℕ} (is_path q p) 1 0 + body_count q rest)
  take_one p [] lt = absurd (omega (arith, lt))
  take_one p (c ∷ cs) lt = by_test (is_path p c.path) refl lt (take_one p cs)
    where
      by_test : (b : Bool) → is_path p c.path ≡ b → 0 < cond {A = ℕ} b 1 0 + body_count p cs
          → (0 < body_count p cs → (rest : List Body) × (sum_of cs ≡ f p + sum_of rest) × ((q : List ℕ) → body_count q cs ≡ cond {A = ℕ} (is_path q p) 1 0 + body_count q rest))
          → (rest : List Body) × (sum_of (c ∷ cs) ≡ f p + sum_of rest) × ((q : List ℕ) → body_count q (c ∷ cs) ≡ cond {A = ℕ} (is_path q p) 1 0 + body_count q rest)
      by_test true is some more =
          let same = sym (path_is p c.path is) in
          (cs, ap (λ (r : List ℕ). f r + sum_of cs) same, λ q. ap (λ (r : List ℕ). cond {A = ℕ} (is_path q r) 1 0 + body_count q cs) same)
      by_test false is some more =
          let one = more (omega (arith, some)) in
          (c ∷ one.0, (let e = one.1 in omega (arith, e)), λ q. (let e = one.2 q in omega (arith, e)))

  none_stands : (cs : List Body) → ((q : List ℕ) → body_count q cs ≡ 0) → sum_of cs ≡ 0
  none_stands [] none = refl
  none_stands (c ∷ cs) none =
      let here = none c.path in
      let one : cond {A = ℕ} (is_path c.path c.path) 1 0 ≡ 1 = ap (λ (b : Bool). cond {A = ℕ} b 1 0) (same_path c.path) in
      absurd (omega (arith, here, one))

  pub same_sums : (bs cs : List Body) → Rearranges bs cs → sum_of bs ≡ sum_of cs
  same_sums [] cs same = sym (none_stands cs (λ q. sym (same q)))
  same_sums (b ∷ bs) cs same =
      let here = same b.path in
      let one : cond {A = ℕ} (is_path b.path b.path) 1 0 ≡ 1 = ap (λ (t : Bool). cond {A = ℕ} t 1 0) (same_path b.path) in
      let taken = take_one b.path cs (omega (arith, here, one)) in
      let rest = same_sums bs taken.0 (λ q. (let e = same q in let k = taken.2 q in omega (arith, e, k))) in
      let whole = taken.1 in
      omega (arith, rest, whole)

pub sums_alike : (f g : List ℕ → ℕ) → ((p : List ℕ) → f p ≡ g p) → (bs : List Body) → sum_of f bs ≡ sum_of g bs
sums_alike f g same [] = refl
sums_alike f g same (b ∷ bs) = let first = same b.path in let rest = sums_alike f g same bs in omega (arith, first, rest)
