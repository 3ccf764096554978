use Rattle.std.proofs.Common.{◌≡◌, ◌∙◌, ◌+◌, ℕ, List, ◌∷◌, ap, drop, map, subst, sym, arith}
use Rattle.ng_changes.proofs.Answered.{dropped}
use Rattle.ng_fire.proofs.Served.{held_first, held_rest, serves_first}
use Rattle.ng_fire.specs.Blocks.{all_gone}
use Rattle.ng_fire.specs.FireOf.{firing}
use Rattle.ng_fire.specs.Serving.{AreHeldBy, Serves}
use Rattle.ng_instances.specs.Instances.{Body}
use Rattle.ng_instances.specs.InstanceOf.{body_of}
use Rattle.ng_link.specs.State.{state_of}
use Rattle.ng_fire.proofs.blocks.take_bodies.Goals as goal

pub take_body-requires-clause-held : goal.take_body-requires-clause-held
take_body-requires-clause-held c =
    let l = c.loop-body in
    let is = (state_of l.works).instances in
    let bodies = c.args.bodies.now in
    let b : Body = body_of c.body-item.result in
    let rest : List Body = map body_of (drop (l.body-index + 1) bodies) in
    let e : map body_of (drop l.body-index bodies) ≡ b ∷ rest = ap (map body_of) (dropped bodies l.body-index c.body-item.result c.loop-body-test.true c.body-item.is) in
    held_first c.args.holder.now b rest is (subst (λ (bs : List Body). AreHeldBy c.args.holder.now bs is) e l.invariant.held)

pub loop-body-preserved : goal.loop-body-preserved
loop-body-preserved c =
    let l = c.loop-body in
    let w = c.take_body.new.works in
    let old = (state_of l.works).instances in
    let new = (state_of w).instances in
    let holder : List ℕ = c.args.holder.now in
    let bodies = c.args.bodies.now in
    let b : Body = body_of c.body-item.result in
    let rest : List Body = map body_of (drop (l.body-index + 1) bodies) in
    let e : map body_of (drop l.body-index bodies) ≡ b ∷ rest = ap (map body_of) (dropped bodies l.body-index c.body-item.result c.loop-body-test.true c.body-item.is) in
    let serves = c.in_ok-take_body.ensures.serves in
    record {
      fired = ap (all_gone holder rest) c.in_ok-take_body.ensures.fired ∙ (sym (ap (λ (bs : List Body). all_gone holder bs (firing l.works l.told)) e) ∙ l.invariant.fired);
      held = held_rest holder b rest old new (subst (λ (bs : List Body). AreHeldBy holder bs old) e l.invariant.held) serves;
      serves = λ is more. l.invariant.serves is (subst (λ (bs : List Body). Serves holder bs old is) (sym e) (serves_first holder b rest old new is serves more));
      grown = (let one = c.in_ok-take_body.ensures.grown in let all = l.invariant.grown in omega (arith, one, all));
      whole = c.in_ok-take_body.ensures.whole;
      templates = c.take_body.ensures.templates ∙ l.invariant.templates;
    }
