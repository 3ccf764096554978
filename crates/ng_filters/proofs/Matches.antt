-- One level of a match.
use Rattle.std.proofs.Common.{◌≡◌, ◌-◌, ℕ, zero, suc, Bool, List, refl, arith}
use Rattle.ng_base.specs.Objects.{Object}
use Rattle.ng_base.specs.Views.{ViewTree}
use Rattle.ng_language.specs.Unfolding.{Spent}
use Rattle.ng_filters.specs.Matching.{negated, match_by, match_within}

pub match_step : (levels left : ℕ) (objects : List Object) (t p : ViewTree) (any : Bool) (A : Spent Bool → Type 0) → (levels ≡ 0 → ⊥) → (left ≡ 0 → ⊥) → A (match_by (negated p) objects (match_within (levels - 1) objects) t p any (left - 1)) → A (match_within levels objects t p any left)
match_step zero left objects t p any A a b h = absurd (a refl)
match_step (suc k) zero objects t p any A a b h = absurd (b refl)
match_step (suc k) (suc l) objects t p any A a b h =
    let e : suc k - 1 ≡ k = omega arith in
    let f : suc l - 1 ≡ l = omega arith in
    rw (e, f) at h
