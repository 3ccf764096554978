use Rattle.std.proofs.Common.{ap, refl, sym, ◌∙◌}
use Rattle.std.proofs.lemmas.Result.{on_ok_weaker}
use Rattle.ng_instances.specs.Instances.{body_added}
use Rattle.ng_instances.specs.InstanceOf.{body_of, instances_of, spot_in}
use Rattle.ng_instances.proofs.Written.{written, unwritten, spots_written}
use Rattle.ng_instances.proofs.outlets.take_in.Goals as goal

pub returns-in-None-clause-taken : goal.returns-in-None-clause-taken
returns-in-None-clause-taken c = λ all.
    ap (λ m. instances_of all m.entries) c.get_mut.follows.holds-at-none
    ∙ unwritten all c.args.holder.now (body_added c.args.outlet c.args.at (body_of c.args.body)) c.args.instances.now.entries (sym c.in-None.ensures.value)

pub returns-in-Some-clause-taken : goal.returns-in-Some-clause-taken
returns-in-Some-clause-taken c = λ all.
    let es = c.args.instances.now.entries in
    let w = record c.in-Some.one.now { outlets = c.add_body.new.outlets } in
    on_ok_weaker c.add_body.result
    (λ outlets. ap (instances_of all) (c.get_mut.follows.holds w).0 ∙ written all c.args.holder.now (body_added c.args.outlet c.args.at (body_of c.args.body)) es c.in-Some.one.now w (sym c.in-Some.ensures.value) refl outlets)
    c.add_body.ensures

pub returns-in-Some-clause-spots : goal.returns-in-Some-clause-spots
returns-in-Some-clause-spots c = λ inner k.
    let w = record c.in-Some.one.now { outlets = c.add_body.new.outlets } in
    on_ok_weaker c.add_body.result
    (λ _. ap (λ es. spot_in inner es k) (c.get_mut.follows.holds w).0 ∙ spots_written inner c.args.holder.now k c.args.instances.now.entries c.in-Some.one.now w (sym c.in-Some.ensures.value) refl)
    c.add_body.ensures
