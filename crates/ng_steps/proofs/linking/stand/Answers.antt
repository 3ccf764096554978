use Rattle.std.proofs.Common.{◌≡◌, ◌∙◌, ◌||◌, Bool, List, Some, ap, length, map, subst, sym}
use Rattle.ng_base.specs.declared.name.ScopeId.{ScopeId}
use Rattle.ng_core.specs.declared.core_state.Core.{Core}
use Rattle.ng_drawing.specs.Template.{Fragment}
use Rattle.ng_changes.proofs.Answered.{ok_has, on_ok, there}
use Rattle.ng_steps.proofs.Placed.{placed_stays, templates_regular}
use Rattle.ng_steps.proofs.Spots.{fragment_homes, templates_bare}
use Rattle.ng_changes.proofs.Wholes.{Stays, stays_of, whole_by}
use Rattle.ng_steps.specs.Links.{rested_on_all}
use Rattle.ng_steps.specs.LinkingOf.{AreBelow}
use Rattle.ng_instances.specs.BoundOf.{registered_of}
use Rattle.ng_instances.specs.PlaceOf.{place_of}
use Rattle.ng_instances.specs.Registering.{Registered, any_lives}
use Rattle.ng_link.specs.State.{State, state_of, templates_of}
use Rattle.ng_drawing.specs.Named.{fragment_for}
use Rattle.ng_steps.proofs.linking.stand.Goals.{then-added, else-added}
use Rattle.ng_steps.proofs.linking.stand.Goals as goal

pub place-requires-clause-objects : goal.place-requires-clause-objects
place-requires-clause-objects c = c.requires.whole.sound.objects

pub place-requires-clause-stands : goal.place-requires-clause-stands
place-requires-clause-stands c = c.requires.whole.standing

pub rest_on_all-requires-clause-whole : goal.rest_on_all-requires-clause-whole
rest_on_all-requires-clause-whole c =
    let v = c.args.works.now in
    let w = c.place.new.self in
    let s : State = state_of v in
    let h = c.requires.whole in
    let r : Registered = registered_of c.args.done.made in
    let q = there (fragment_for (templates_of v) c.args.origin.now) c.requires.template in
    let f : Fragment = q.0 in
    let state = on_ok c.place.result c.in_ok-lives.lives c.in_ok-lives.ensures c.place.ensures.state in
    let core = on_ok c.place.result c.in_ok-lives.lives c.in_ok-lives.ensures c.place.ensures.core in
    let stands = on_ok c.place.result c.in_ok-lives.lives c.in_ok-lives.ensures c.place.ensures.stands in
    whole_by v w h core stands
    (subst (λ (x : State). Stays v.core.scopes (length v.core.store) x) (sym (state f q.1))
    (placed_stays (length v.core.store) (place_of c.args.place.now) c.args.origin.now c.args.scope.0 f r s h.standing.1.inner c.requires.free (c.requires.made f q.1) h.root c.requires.scope h.standing.1.built.ordered
    (fragment_homes (templates_of v) (templates_regular v) (templates_bare v) c.args.origin.now f q.1) (stays_of v h)))

pub rest_on_all-requires-clause-scopes : goal.rest_on_all-requires-clause-scopes
rest_on_all-requires-clause-scopes c =
    let v = c.args.works.now in
    let core = on_ok c.place.result c.in_ok-lives.lives c.in_ok-lives.ensures c.place.ensures.core in
    let same : c.as_slice-2.result.now ≡ c.args.done.made.scopes.items = c.as_slice-2.ensures.value ∙ (c.in_ok-scopes.ensures ∙ c.as_slice.ensures.value) in
    subst (λ (k : Core). AreBelow (length k.scopes) (map (λ (n : ScopeId). n.0) c.as_slice-2.result.now)) (sym core)
    (subst (λ (xs : List ScopeId). AreBelow (length v.core.scopes) (map (λ (n : ScopeId). n.0) xs)) (sym same) c.requires.grounded.scopes)

pub returns-clause-stands : goal.returns-clause-stands
returns-clause-stands c = λ f at.
    let v = c.args.works.now in
    let s : State = state_of v in
    let r : Registered = registered_of c.args.done.made in
    let state = on_ok c.place.result c.in_ok-lives.lives c.in_ok-lives.ensures c.place.ensures.state in
    let same : c.as_slice-2.result.now ≡ c.args.done.made.scopes.items = c.as_slice-2.ensures.value ∙ (c.in_ok-scopes.ensures ∙ c.as_slice.ensures.value) in
    let lives = ok_has (λ (b : Bool). (g : Fragment) → fragment_for (templates_of v) c.args.origin.now ≡ Some g → b ≡ any_lives s.core.scopes g r.at_hand 0 r.serials) c.place.result c.in_ok-lives.lives c.place.ensures.lives c.in_ok-lives.ensures in
    let a : Bool = c.args.done.added in
    let x : Bool = c.in_ok-lives.lives in
    let both : c.if-added.result ≡ (a || x) = elim c.if-added.branch [
      | then-added w ↦ w.result-is ∙ (w.if-added.true ∙ sym (ap (λ (b : Bool). b || x) w.if-added.true))
      | else-added w ↦ w.result-is ∙ sym (ap (λ (b : Bool). b || x) w.if-added.false)
    ] in (
      c.in_ok-rest_on_all.ensures.state
          ∙ (ap (λ (xs : List ScopeId). rested_on_all (map (λ (n : ScopeId). n.0) xs) (state_of c.place.new.self)) same
          ∙ ap (rested_on_all r.at_hand.scopes) (state f at)),
      both ∙ ap (λ (b : Bool). a || b) (lives f at),
    )
