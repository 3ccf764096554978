use Rattle.std.proofs.Common.{◌+◌, ◌++◌, ◌∷◌, [], List, ℕ, ap, sym, ◌∙◌, arith, map, drop, append_assoc}
use Rattle.ng_build.proofs.Loops.{next_same}
use Rattle.ng_build.proofs.building.note_own.Goals as goal

pub loop-preserved : goal.loop-preserved
loop-preserved c =
    let n = c.args.n.made.0 in
    let own = c.args.own.now in
    let i = c.loop.index in
    let rest : List ℕ = map (λ (_ : ℕ). n) (drop (i + 1) own) in
    ap (λ (xs : List ℕ). xs ++ rest) c.in_ok-push.ensures.items
    ∙ (append_assoc c.loop.spots.items (n ∷ []) rest
    ∙ (ap (λ (xs : List ℕ). c.loop.spots.items ++ xs) (sym (next_same n own i (omega arith))) ∙ c.loop.invariant))
