use Rattle.std.proofs.Common.{◌+◌, ◌++◌, ◌∷◌, [], List, ℕ, ap, sym, ◌∙◌, arith, map, drop, append_assoc}
use Rattle.std.proofs.lemmas.List.{map-append}
use Rattle.ng_build.specs.Linking.{LinkStep, registers}
use Rattle.ng_build.specs.StepOf.{step_of}
use Rattle.ng_build.specs.declared.ordering.LinkStep as code
use Rattle.ng_build.specs.declared.ordering.LinkStep.TheVariants.{Registers}
use Rattle.ng_build.proofs.Loops.{next_same}
use Rattle.ng_build.proofs.ordering.add_own.Goals as goal

pub loop-preserved : goal.loop-preserved
loop-preserved c =
    let own = c.args.own.now in
    let i = c.loop.index in
    let before : List LinkStep = map step_of c.loop.order.items in
    let rest : List LinkStep = map (λ (_ : ℕ). registers) (drop (i + 1) own) in
    ap (λ (xs : List code.LinkStep). map step_of xs ++ rest) c.in_ok-push.ensures.items
    ∙ (ap (λ (xs : List LinkStep). xs ++ rest) (map-append step_of c.loop.order.items (Registers ∷ []))
    ∙ (append_assoc before (registers ∷ []) rest
    ∙ (ap (λ (xs : List LinkStep). before ++ xs) (sym (next_same registers own i (omega arith))) ∙ c.loop.invariant)))
