use Rattle.std.proofs.Common.{ap, refl, sym, map, ◌∙◌}
use Rattle.ng_instances.specs.Instances.{bodies_arranged}
use Rattle.ng_instances.specs.InstanceOf.{body_of, instances_of, spot_in}
use Rattle.ng_instances.proofs.Written.{written, unwritten, spots_written}
use Rattle.ng_link.proofs.arranging.set_held.Goals as goal

pub returns-in-None-clause-arranged : goal.returns-in-None-clause-arranged
returns-in-None-clause-arranged c = λ all.
    ap (λ m. instances_of all m.entries) c.get_mut.follows.holds-at-none
    ∙ unwritten all c.args.holder.now (bodies_arranged c.args.outlet (map body_of c.args.bodies.items)) c.args.instances.now.entries (sym c.in-None.ensures.value)

pub returns-in-Some-clause-arranged : goal.returns-in-Some-clause-arranged
returns-in-Some-clause-arranged c = λ all.
    let es = c.args.instances.now.entries in
    let w = record c.in-Some.one.now { outlets = c.set_bodies.new.outlets } in
    ap (instances_of all) (c.get_mut.follows.holds w).0
    ∙ written all c.args.holder.now (bodies_arranged c.args.outlet (map body_of c.args.bodies.items)) es c.in-Some.one.now w (sym c.in-Some.ensures.value) refl c.set_bodies.ensures

pub returns-in-Some-clause-spots : goal.returns-in-Some-clause-spots
returns-in-Some-clause-spots c = λ inner k.
    let w = record c.in-Some.one.now { outlets = c.set_bodies.new.outlets } in
    ap (λ es. spot_in inner es k) (c.get_mut.follows.holds w).0 ∙ spots_written inner c.args.holder.now k c.args.instances.now.entries c.in-Some.one.now w (sym c.in-Some.ensures.value) refl
