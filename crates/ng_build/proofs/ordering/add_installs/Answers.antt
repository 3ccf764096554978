use Rattle.std.proofs.Common.{◌+◌, ◌++◌, ℕ, List, ap, sym, ◌∙◌, drop, get_or, map}
use Rattle.ng_parts.specs.ActsOf.{uses_of, scopes_of}
use Rattle.ng_build.specs.Linking.{LinkStep, scope_of, installs}
use Rattle.ng_build.specs.StepOf.{step_of}
use Rattle.ng_build.specs.declared.ordering.LinkStep as code
use Rattle.ng_build.specs.declared.ordering.LinkStep.TheVariants.{Installs}
use Rattle.ng_build.proofs.Loops.{got_or, next_seen, pushed}
use Rattle.ng_build.proofs.ordering.add_installs.Goals as goal

pub loop-directive-preserved : goal.loop-directive-preserved
loop-directive-preserved c =
    let ds = c.args.directives.now in
    let i = c.loop-directive.directive-index in
    let d : ℕ = get_or ds i 0 in
    let order : List code.LinkStep = c.loop-directive.order.items in
    let x : code.LinkStep = Installs d c.scope_of-scope.result in
    let one : ℕ → LinkStep = λ n. installs n (scope_of (uses_of c.args.uses.now) (scopes_of c.args.scopes.now) n) in
    let rest : List LinkStep = map one (drop (i + 1) ds) in
    ap (λ (ys : List code.LinkStep). map step_of ys ++ rest) c.in_ok-push.ensures.items
    ∙ (pushed step_of order x (one d) rest (ap (λ (n : ℕ). installs d n) c.scope_of-scope.ensures)
    ∙ (sym (ap (λ (ys : List LinkStep). map step_of order ++ ys) (next_seen one ds i d c.loop-directive-test.true (got_or ds i 0 c.loop-directive-test.true))) ∙ c.loop-directive.invariant))
