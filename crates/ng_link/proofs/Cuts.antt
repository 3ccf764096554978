-- A body of an outlet is taken out at its place.
use Rattle.std.proofs.Common.{◌≡◌, ◌≤◌, ℕ, zero, suc, Bool, true, false, cond, List, [], ◌∷◌, Some, refl, ap, ◌∙◌, sym, slice_get, arith}
use Rattle.std.specs.Prelude.{not}
use Rattle.std.specs.List.{filter}
use Rattle.ng_dom.specs.Lists.{without_at}
use Rattle.ng_instances.specs.Instances.{Body, OutletState, is_path, body_gone}
use Rattle.ng_link.specs.Standing.{body_count, held_count}
use Rattle.ng_link.specs.Unlinking.{IsHeldAt, body_cut}
use Rattle.ng_link.proofs.BodiesAt.{counted, counted_at}
use Rattle.ng_link.proofs.PathsBelow.{is_that}

module _ (p : List ℕ) where
  abbrev others : List Body → List Body
  others bs = filter (λ (b : Body). not (is_path p b.path)) bs

  all_others : (bs : List Body) → body_count p bs ≡ 0 → others bs ≡ bs
  all_others [] e = refl
  all_others (c ∷ bs) e = by_test (is_path p c.path) refl (all_others bs (omega (arith, e)))
    where
      by_test : (b : Bool) → is_path p c.path ≡ b → others bs ≡ bs → cond (not b) (c ∷ others bs) (others bs) ≡ c ∷ bs
      by_test true is more = absurd (let one : cond {A = ℕ} (is_path p c.path) 1 0 ≡ 1 = ap (λ (t : Bool). cond {A = ℕ} t 1 0) is in omega (arith, one, e))
      by_test false is more = ap (λ (xs : List Body). c ∷ xs) more

  one_cut : (bs : List Body) (i : ℕ) (b : Body) → slice_get bs i ≡ Some b → p ≡ b.path → body_count p bs ≤ 1 → others bs ≡ without_at i bs
  one_cut [] i b e is le = absurd (cc)
  one_cut (c ∷ bs) zero b e is le =
      let same : c ≡ b = cc in
      let here : is_path p c.path ≡ true = is_that p c.path (is ∙ ap (λ (x : Body). x.path) (sym same)) in
      let one : cond {A = ℕ} (is_path p c.path) 1 0 ≡ 1 = ap (λ (t : Bool). cond {A = ℕ} t 1 0) here in
      ap (λ (t : Bool). cond (not t) (c ∷ others bs) (others bs)) here ∙ all_others bs (omega (arith, one, le))
  one_cut (c ∷ bs) (suc i) b e is le = by_test (is_path p c.path) refl (one_cut bs i b e is (omega (arith, le)))
    where
      by_test : (t : Bool) → is_path p c.path ≡ t → others bs ≡ without_at i bs → cond (not t) (c ∷ others bs) (others bs) ≡ c ∷ without_at i bs
      by_test true here more = absurd (let one : cond {A = ℕ} (is_path p c.path) 1 0 ≡ 1 = ap (λ (u : Bool). cond {A = ℕ} u 1 0) here in let there = counted p bs i b e is in omega (arith, one, there, le))
      by_test false here more = ap (λ (xs : List Body). c ∷ xs) more

  rest_same : (os : List OutletState) → held_count p os ≡ 0 → body_gone p os ≡ os
  rest_same [] e = refl
  rest_same (y ∷ ys) e =
      ap (λ (bs : List Body). record y { bodies = bs } ∷ body_gone p ys) (all_others y.bodies (omega (arith, e)))
      ∙ ap (λ (zs : List OutletState). y ∷ zs) (rest_same ys (omega (arith, e)))

  -- where a path is that of one body at most, that is the body which goes
  pub gone_cut : (os : List OutletState) (o i : ℕ) → IsHeldAt p o i os → held_count p os ≤ 1 → body_gone p os ≡ body_cut o i os
  gone_cut [] o i h le = absurd (let none = h.1 in cc)
  gone_cut (y ∷ ys) zero i h le =
      let same : y ≡ h.0 = let two : Some y ≡ Some h.0 = h.1 in cc in
      let place : slice_get y.bodies i ≡ Some h.2.0 = ap (λ (z : OutletState). slice_get z.bodies i) same ∙ h.2.1 in
      let lt = counted p y.bodies i h.2.0 place h.2.2 in
      ap (λ (bs : List Body). record y { bodies = bs } ∷ body_gone p ys) (one_cut y.bodies i h.2.0 place h.2.2 (omega (arith, le)))
      ∙ ap (λ (zs : List OutletState). (record y { bodies = without_at i y.bodies }) ∷ zs) (rest_same ys (omega (arith, lt, le)))
  gone_cut (y ∷ ys) (suc o) i h le =
      let lt = counted_at p ys o h.0 i h.2.0 h.1 h.2.1 h.2.2 in
      ap (λ (bs : List Body). record y { bodies = bs } ∷ body_gone p ys) (all_others y.bodies (omega (arith, lt, le)))
      ∙ ap (λ (zs : List OutletState). y ∷ zs) (gone_cut ys o i (h.0, h.1, h.2) (omega (arith, le)))
