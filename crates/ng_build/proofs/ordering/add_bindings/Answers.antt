use Rattle.std.proofs.Common.{◌+◌, ◌++◌, List, ap, sym, ◌∙◌, drop, map}
use Rattle.ng_drawing.specs.Template.{Binding}
use Rattle.ng_parts.specs.ActsOf.{binding_of}
use Rattle.ng_build.specs.Linking.{LinkStep, binds}
use Rattle.ng_build.specs.StepOf.{step_of}
use Rattle.ng_build.specs.declared.ordering.LinkStep as code
use Rattle.ng_build.specs.declared.ordering.LinkStep.TheVariants.{Binds}
use Rattle.ng_build.proofs.Loops.{next_seen, pushed}
use Rattle.ng_build.proofs.ordering.add_bindings.Goals as goal

pub loop-binding-preserved : goal.loop-binding-preserved
loop-binding-preserved c =
    let bs = c.args.bindings.now in
    let i = c.loop-binding.binding-index in
    let b = c.binding-item.result in
    let order : List code.LinkStep = c.loop-binding.order.items in
    let x : code.LinkStep = Binds c.in_ok-copied.field-0 c.args.isolate c.args.over in
    let bound : Binding → LinkStep = λ a. binds a c.args.isolate c.args.over in
    let rest : List LinkStep = map bound (map binding_of (drop (i + 1) bs)) in
    ap (λ (ys : List code.LinkStep). map step_of ys ++ rest) c.in_ok-push.ensures.items
    ∙ (pushed step_of order x (bound (binding_of b)) rest (ap bound c.in_ok-copied.ensures)
    ∙ (sym (ap (λ (ys : List Binding). map step_of order ++ map bound ys) (next_seen binding_of bs i b c.loop-binding-test.true c.binding-item.is)) ∙ c.loop-binding.invariant))
