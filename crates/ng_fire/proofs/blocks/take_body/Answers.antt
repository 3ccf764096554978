use Rattle.std.proofs.Common.{◌≡◌, ◌∙◌, ℕ, List, [], ◌∷◌, ap, length, subst, sym}
use Rattle.ng_core.proofs.MoreScopes.{ok_and}
use Rattle.ng_changes.proofs.Answered.{ok_then}
use Rattle.ng_fire.proofs.BlockBodies.{ended_linked}
use Rattle.ng_steps.proofs.Placed.{unlinked_stays}
use Rattle.ng_fire.proofs.Served.{unlinked_serves}
use Rattle.ng_changes.proofs.Wholes.{Stays, stays_of, whole_by}
use Rattle.ng_fire.specs.Blocks.{Firing, ended}
use Rattle.ng_fire.specs.FireOf.{firing}
use Rattle.ng_fire.specs.Serving.{Serves}
use Rattle.ng_link.specs.Calls.{unlinked_at}
use Rattle.ng_instances.specs.Instances.{Body, Instances, unlinked}
use Rattle.ng_link.specs.Standing.{IsHeldIn}
use Rattle.ng_instances.specs.InstanceOf.{body_of}
use Rattle.ng_link.specs.State.{State, state_of}
use Rattle.ng_fire.proofs.blocks.take_body.Goals as goal

pub unlink-requires-clause-held : goal.unlink-requires-clause-held
unlink-requires-clause-held c =
    let w = c.args.works.now in
    let b : Body = body_of c.args.body.now in
    let m = c.end_body.new.works in
    let same : (state_of m).instances ≡ (state_of w).instances = ap (λ (g : Firing). g.state.instances) c.in_ok-end_body.ensures.fired ∙ ended_linked c.path.result.now (firing w c.args.told.now) in
    subst (λ (p : List ℕ). IsHeldIn c.args.holder.now p (state_of m).instances) (sym c.path-2.ensures) (subst (λ (is : Instances). IsHeldIn c.args.holder.now b.path is) (sym same) c.requires.held)

pub returns-clause-fired : goal.returns-clause-fired
returns-clause-fired c =
    let holder : List ℕ = c.args.holder.now in
    let b : Body = body_of c.args.body.now in
    let m = c.end_body.new.works in
    let told = c.end_body.new.told in
    let before : Firing = firing c.args.works.now c.args.told.now in
    ok_then c.unlink.result c.unlink.ensures.state
    (λ state. ap (λ (s : State). (let h : Firing = record { state = s; faulted = told.faulted; added = told.added } in h)) (state ∙ ap (λ (p : List ℕ). unlinked_at holder p (state_of m)) c.path-2.ensures)
    ∙ ap (λ (h : Firing). (let g : Firing = record h { state = unlinked_at holder b.path h.state } in g)) (c.in_ok-end_body.ensures.fired ∙ ap (λ (p : List ℕ). ended p before) c.path.ensures))

pub returns-clause-serves : goal.returns-clause-serves
returns-clause-serves c =
    let w = c.args.works.now in
    let b : Body = body_of c.args.body.now in
    let m = c.end_body.new.works in
    let same : (state_of m).instances ≡ (state_of w).instances = ap (λ (g : Firing). g.state.instances) c.in_ok-end_body.ensures.fired ∙ ended_linked c.path.result.now (firing w c.args.told.now) in
    let held = subst (λ (is : Instances). IsHeldIn c.args.holder.now b.path is) (sym same) c.requires.held in
    let one : Serves c.args.holder.now (b ∷ []) (state_of m).instances (unlinked c.args.holder.now b.path (state_of m).instances) =
    unlinked_serves _ _ c.args.holder.now b (state_of m).instances c.in_ok-end_body.ensures.whole.standing.1.built.each held in
    ok_then c.unlink.result c.unlink.ensures.state
    (λ state. subst (λ (is : Instances). Serves c.args.holder.now (b ∷ []) is (state_of c.unlink.new.self).instances) same
    (subst (λ (is : Instances). Serves c.args.holder.now (b ∷ []) (state_of m).instances is) (sym (ap (λ (s : State). s.instances) state ∙ ap (λ (p : List ℕ). unlinked c.args.holder.now p (state_of m).instances) c.path-2.ensures)) one))

pub returns-clause-whole : goal.returns-clause-whole
returns-clause-whole c =
    let v = c.args.works.now in
    let b : Body = body_of c.args.body.now in
    let m = c.end_body.new.works in
    let w = c.unlink.new.self in
    let same : (state_of m).instances ≡ (state_of v).instances = ap (λ (g : Firing). g.state.instances) c.in_ok-end_body.ensures.fired ∙ ended_linked c.path.result.now (firing v c.args.told.now) in
    let held = subst (λ (p : List ℕ). IsHeldIn c.args.holder.now p (state_of m).instances) (sym c.path-2.ensures) (subst (λ (is : Instances). IsHeldIn c.args.holder.now b.path is) (sym same) c.requires.held) in
    let standing = c.in_ok-end_body.ensures.whole.standing.1 in
    ok_and c.unlink.result c.unlink.ensures.state c.unlink.ensures.stands
    (λ state stands. whole_by m w c.in_ok-end_body.ensures.whole c.unlink.ensures.core stands
    (subst (λ (s : State). Stays m.core.scopes (length m.core.store) s) (sym state)
    (unlinked_stays m.core.scopes (length m.core.store) c.args.holder.now c.path-2.result.now (state_of m) standing.inner (standing.built.bodies.linked c.args.holder.now c.path-2.result.now held) (stays_of m c.in_ok-end_body.ensures.whole))))
