use Rattle.std.proofs.Common.{◌≡◌, ◌∙◌, ◌<◌, ◌-◌, ◌++◌, ◌∷◌, [], ℕ, zero, suc, List, ap, append_assoc, arith}
use Rattle.ng_language.specs.Texts.{spaces}
use Rattle.ng_value.proofs.writing.deeper.Goals as goal

-- a space more at the end is one less of those to come
one_more : (xs : List ℕ) (n : ℕ) → 0 < n → (xs ++ 32 ∷ []) ++ spaces (n - 1) ≡ xs ++ spaces n
one_more xs zero lt = absurd (omega (arith, lt))
one_more xs (suc n) lt =
    let less : suc n - 1 ≡ n = omega arith in
    ap (λ (m : ℕ). (xs ++ 32 ∷ []) ++ spaces m) less ∙ append_assoc xs (32 ∷ []) (spaces n)

pub loop-left-preserved : goal.loop-left-preserved
loop-left-preserved c =
    let left : 0 < c.loop-left.left = c.loop-left-test.true in
    ap (λ (t : List ℕ). t ++ spaces (c.loop-left.left - 1)) c.in_ok-push.ensures.ok
    ∙ (one_more c.loop-left.inner c.loop-left.left left ∙ c.loop-left.invariant)
