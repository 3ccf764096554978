use Rattle.std.proofs.Common.{◌≡◌, ◌∙◌, ◌<◌, ◌-◌, ◌++◌, ◌∷◌, [], ℕ, zero, suc, List, take, ap, sym, append_assoc, arith}
use Rattle.ng_filters.proofs.limits.front.Goals as goal

-- a character more at the end is one less of those to come
one_more : (xs : List ℕ) (x : ℕ) (ys : List ℕ) (n : ℕ) → 0 < n → (xs ++ x ∷ []) ++ take (n - 1) ys ≡ xs ++ take n (x ∷ ys)
one_more xs x ys zero lt = absurd (omega (arith, lt))
one_more xs x ys (suc n) lt =
    let less : suc n - 1 ≡ n = omega arith in
    ap (λ (m : ℕ). (xs ++ x ∷ []) ++ take m ys) less ∙ append_assoc xs (x ∷ []) (take n ys)

pub loop-left-preserved : goal.loop-left-preserved
loop-left-preserved c =
    let left : 0 < c.loop-left.left = c.loop-left-test.true in
    ap (λ (t : List ℕ). t ++ take (c.loop-left.left - 1) c.in-Some.rest) c.in_ok-push.ensures.ok
    ∙ (one_more c.loop-left.out c.in-Some.c c.in-Some.rest c.loop-left.left left
    ∙ (sym (ap (λ (r : List ℕ). c.loop-left.out ++ take c.loop-left.left r) c.in-Some.ensures) ∙ c.loop-left.invariant))
