use Rattle.std.proofs.Common.{◌+◌, ◌++◌, ℕ, List, [], ◌∷◌, sym, subst, map, take}
use Rattle.std.proofs.lemmas.List.{take_all}
use Rattle.ng_link.specs.Arranging.{AreAt, IsPlaceOf}
use Rattle.ng_instances.specs.Instances.{Body}
use Rattle.ng_instances.specs.InstanceOf.{body_of}
use Rattle.ng_instances.specs.declared.instances.Body as code
use Rattle.ng_link.proofs.AlikeBodies.{at_more, seen_more}
use Rattle.ng_link.proofs.arranging.order_of.Goals as goal

pub loop-body-preserved : goal.loop-body-preserved
loop-body-preserved c =
    let old = map body_of c.args.old.now in
    let new = c.args.new.now in
    let k = c.loop-body.body-index in
    let b = c.body-item.result in
    let n = c.in_ok-place_in.field-0 in
    let is = c.loop-body.order in
    let one : IsPlaceOf old b.path n = subst (λ (p : List ℕ). IsPlaceOf old p n) c.path.ensures (c.in_ok-place_in.ensures old c.in_ok-places.ensures) in
    subst (λ (js : List ℕ). AreAt old js (map body_of (take (k + 1) new))) (sym c.in_ok-push.ensures.ok)
    (subst (λ (bs : List Body). AreAt old (is ++ n ∷ []) bs) (sym (seen_more new k b c.loop-body-test.true c.body-item.is)) (at_more old is (map body_of (take k new)) n (body_of b) one c.loop-body.invariant))

pub returns : goal.returns
returns c =
    let old = map body_of c.args.old.now in
    let new = c.args.new.now in
    subst (λ (bs : List code.Body). AreAt old c.loop-body.order (map body_of bs)) (take_all c.loop-body.body-index new c.loop-body-test.false) c.loop-body.invariant
