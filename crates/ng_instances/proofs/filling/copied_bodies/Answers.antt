use Rattle.std.proofs.Common.{◌+◌, ◌++◌, List, ap, sym, ◌∙◌, drop, map}
use Rattle.ng_instances.specs.Instances.{Body}
use Rattle.ng_instances.specs.InstanceOf.{body_of}
use Rattle.ng_instances.specs.declared.instances.Body as code
use Rattle.ng_build.proofs.Loops.{next_seen, pushed}
use Rattle.ng_instances.proofs.filling.copied_bodies.Goals as goal

pub loop-body-preserved : goal.loop-body-preserved
loop-body-preserved c =
    let bs = c.args.bodies.now in
    let i = c.loop-body.body-index in
    let b = c.body-item.result in
    let cs : List code.Body = c.loop-body.copies.items in
    let x : code.Body = c.in_ok-copied.field-0 in
    let rest : List Body = map body_of (drop (i + 1) bs) in
    ap (λ (ys : List code.Body). map body_of ys ++ rest) c.in_ok-push.ensures.items
    ∙ (pushed body_of cs x (body_of b) rest (ap body_of c.in_ok-copied.ensures)
    ∙ (sym (ap (λ (ys : List Body). map body_of cs ++ ys) (next_seen body_of bs i b c.loop-body-test.true c.body-item.is)) ∙ c.loop-body.invariant))
