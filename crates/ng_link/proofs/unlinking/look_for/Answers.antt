use Rattle.std.proofs.Common.{List, sym, map, subst}
use Rattle.ng_instances.specs.InstanceOf.{body_of, outlet_of}
use Rattle.ng_link.specs.Unlinking.{IsBodyAt}
use Rattle.ng_instances.specs.declared.instances.Body.{Body}
use Rattle.ng_instances.specs.declared.instances.OutletState.{OutletState}
use Rattle.ng_link.proofs.HeldCut.{seen_at}
use Rattle.ng_link.proofs.unlinking.look_for.Goals as goal

pub returns-in-Some : goal.returns-in-Some
returns-in-Some c =
    let o = c.index-outlets-o.result in
    let place = subst (λ (bs : List Body). IsBodyAt c.args.p.now c.in-Some.i (map body_of bs)) c.as_slice.ensures.value c.in-Some.ensures in (
      outlet_of o,
      seen_at outlet_of c.args.outlets.now c.loop-o.o o c.loop-o-test.true c.index-outlets-o.is,
      subst (λ (x : OutletState). IsBodyAt c.args.p.now c.in-Some.i (map body_of x.bodies.items)) (sym c.index-outlets-o.is) place,
    )
