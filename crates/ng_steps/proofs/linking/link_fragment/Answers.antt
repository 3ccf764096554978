use Rattle.std.proofs.Common.{◌≡◌, ◌∙◌, ◌≤◌, ℕ, List, None, Some, ap, map, subst, sym, arith}
use Rattle.std.specs.Prelude.{IsSome}
use Rattle.ng_base.specs.declared.name.ScopeId.{ScopeId}
use Rattle.ng_behaviour.specs.Scopes.{path_at}
use Rattle.ng_drawing.specs.Nodes.{node_limit}
use Rattle.ng_changes.proofs.Answered.{if_both, if_on, there}
use Rattle.ng_steps.proofs.Linkings.{begun_by, first_none, given_has, link_is, linked_made, linked_room, linked_under}
use Rattle.ng_steps.proofs.Placed.{free_same}
use Rattle.ng_changes.proofs.ScopePaths.{more_count, more_path}
use Rattle.ng_steps.specs.Links.{Linking, first_of}
use Rattle.ng_steps.specs.LinkingOf.{linking}
use Rattle.ng_steps.specs.declared.linking.Built.{Built}
use Rattle.ng_instances.specs.PlaceOf.{place_of}
use Rattle.ng_link.specs.State.{State, live_nodes, state_of, templates_of}
use Rattle.ng_build.specs.StepOf.{step_of}
use Rattle.ng_drawing.specs.Named.{Named, fragment_for}
use Rattle.ng_steps.proofs.linking.link_fragment.Goals as goal

pub link_steps-requires-clause-pure : goal.link_steps-requires-clause-pure
link_steps-requires-clause-pure c =
    let q = there (fragment_for (templates_of c.args.works.now) c.args.origin.now) c.requires.template in
    (c.in_ok-order.ensures q.0 q.1).pure

pub stand-requires-clause-template : goal.stand-requires-clause-template
stand-requires-clause-template c = subst (λ (ts : List Named). IsSome (fragment_for ts c.args.origin.now)) (sym c.link_steps.ensures.templates) c.requires.template

pub stand-requires-clause-scope : goal.stand-requires-clause-scope
stand-requires-clause-scope c =
    let w = c.args.works.now in
    let s : State = state_of w in
    let v = c.link_steps.new.works in
    let os : List ℕ = map (λ (n : ScopeId). n.0) c.args.outsides.items in
    let q = there (fragment_for (templates_of w) c.args.origin.now) c.requires.template in
    let order = c.in_ok-order.ensures q.0 q.1 in
    let all = ap (map step_of) c.as_slice.ensures.value ∙ order.steps in
    let has = given_has q.0 c.in_ok-order.order c.in_ok-room.room (map step_of c.as_slice.result.now) (map step_of c.steps_within-cut.result.0.now) all c.steps_within-cut.ensures.steps order.programs in
    let one = begun_by s c.args.scope.0 os q.0 c.live_nodes-live.result c.in_ok-room.room (map step_of c.as_slice.result.now) (map step_of c.steps_within-cut.result.0.now) c.steps_within-cut.result.1 (linking v c.in_ok-done.done) c.live_nodes-live.ensures c.in_ok-room.ensures.room all
    c.steps_within-cut.ensures.steps c.steps_within-cut.ensures.fault (c.in_ok-done.ensures.steps q.0 order has) in
    let under = linked_under s c.args.scope.0 os q.0 c.steps_within-cut.result.1 (linking v c.in_ok-done.done) one c.requires.whole.root c.requires.scope c.requires.outsides in
    (let le = more_count w.core.scopes v.core.scopes under.wider in let lt = c.requires.scope in omega (arith, le, lt))

pub stand-requires-clause-free : goal.stand-requires-clause-free
stand-requires-clause-free c =
    let w = c.args.works.now in
    let s : State = state_of w in
    let v = c.link_steps.new.works in
    let os : List ℕ = map (λ (n : ScopeId). n.0) c.args.outsides.items in
    let q = there (fragment_for (templates_of w) c.args.origin.now) c.requires.template in
    let order = c.in_ok-order.ensures q.0 q.1 in
    let all = ap (map step_of) c.as_slice.ensures.value ∙ order.steps in
    let has = given_has q.0 c.in_ok-order.order c.in_ok-room.room (map step_of c.as_slice.result.now) (map step_of c.steps_within-cut.result.0.now) all c.steps_within-cut.ensures.steps order.programs in
    let one = begun_by s c.args.scope.0 os q.0 c.live_nodes-live.result c.in_ok-room.room (map step_of c.as_slice.result.now) (map step_of c.steps_within-cut.result.0.now) c.steps_within-cut.result.1 (linking v c.in_ok-done.done) c.live_nodes-live.ensures c.in_ok-room.ensures.room all
    c.steps_within-cut.ensures.steps c.steps_within-cut.ensures.fault (c.in_ok-done.ensures.steps q.0 order has) in
    let under = linked_under s c.args.scope.0 os q.0 c.steps_within-cut.result.1 (linking v c.in_ok-done.done) one c.requires.whole.root c.requires.scope c.requires.outsides in
    free_same (place_of c.args.place.now) (path_at w.core.scopes c.args.scope.0) (path_at v.core.scopes c.args.scope.0) s (state_of v) (more_path w.core.scopes v.core.scopes c.args.scope.0 under.wider c.requires.scope) under.linked c.requires.free

pub stand-requires-clause-room : goal.stand-requires-clause-room
stand-requires-clause-room c = λ f at.
    let w = c.args.works.now in
    let s : State = state_of w in
    let v = c.link_steps.new.works in
    let g : Linking = linking v c.in_ok-done.done in
    let os : List ℕ = map (λ (n : ScopeId). n.0) c.args.outsides.items in
    let was : fragment_for (templates_of w) c.args.origin.now ≡ Some f = ap (λ (ts : List Named). fragment_for ts c.args.origin.now) (sym c.link_steps.ensures.templates) ∙ at in
    let order = c.in_ok-order.ensures f was in
    let all = ap (map step_of) c.as_slice.ensures.value ∙ order.steps in
    let has = given_has f c.in_ok-order.order c.in_ok-room.room (map step_of c.as_slice.result.now) (map step_of c.steps_within-cut.result.0.now) all c.steps_within-cut.ensures.steps order.programs in
    let one = begun_by s c.args.scope.0 os f c.live_nodes-live.result c.in_ok-room.room (map step_of c.as_slice.result.now) (map step_of c.steps_within-cut.result.0.now) c.steps_within-cut.result.1 g c.live_nodes-live.ensures c.in_ok-room.ensures.room all c.steps_within-cut.ensures.steps
    c.steps_within-cut.ensures.fault (c.in_ok-done.ensures.steps f order has) in
    let under = linked_under s c.args.scope.0 os f c.steps_within-cut.result.1 g one c.requires.whole.root c.requires.scope c.requires.outsides in
    let few : live_nodes s ≤ node_limit = subst (λ (n : ℕ). n ≤ node_limit) c.live_nodes-live.ensures c.in_ok-room.ensures.few in
    linked_room s c.args.scope.0 os f c.steps_within-cut.result.1 g one under few (sym c.first_fault-met.ensures ∙ c.in-None.is)

pub stand-requires-clause-made : goal.stand-requires-clause-made
stand-requires-clause-made c = λ f at.
    let w = c.args.works.now in
    let s : State = state_of w in
    let v = c.link_steps.new.works in
    let g : Linking = linking v c.in_ok-done.done in
    let os : List ℕ = map (λ (n : ScopeId). n.0) c.args.outsides.items in
    let was : fragment_for (templates_of w) c.args.origin.now ≡ Some f = ap (λ (ts : List Named). fragment_for ts c.args.origin.now) (sym c.link_steps.ensures.templates) ∙ at in
    let order = c.in_ok-order.ensures f was in
    let all = ap (map step_of) c.as_slice.ensures.value ∙ order.steps in
    let has = given_has f c.in_ok-order.order c.in_ok-room.room (map step_of c.as_slice.result.now) (map step_of c.steps_within-cut.result.0.now) all c.steps_within-cut.ensures.steps order.programs in
    let one = begun_by s c.args.scope.0 os f c.live_nodes-live.result c.in_ok-room.room (map step_of c.as_slice.result.now) (map step_of c.steps_within-cut.result.0.now) c.steps_within-cut.result.1 g c.live_nodes-live.ensures c.in_ok-room.ensures.room all c.steps_within-cut.ensures.steps
    c.steps_within-cut.ensures.fault (c.in_ok-done.ensures.steps f order has) in
    linked_made s c.args.scope.0 os f c.steps_within-cut.result.1 g one c.requires.whole.root c.requires.scope c.requires.outsides (sym c.first_fault-met.ensures ∙ c.in-None.is)

pub returns-in-Some-clause-linked : goal.returns-in-Some-clause-linked
returns-in-Some-clause-linked c =
    let w = c.args.works.now in
    let s : State = state_of w in
    let v = c.link_steps.new.works in
    let g : Linking = linking v c.in_ok-done.done in
    let os : List ℕ = map (λ (n : ScopeId). n.0) c.args.outsides.items in
    if_on c.given_up.result c.given_up.ensures.built c.given_up.ensures.state
    (λ b made state f was.
    let order = c.in_ok-order.ensures f was in
    let all = ap (map step_of) c.as_slice.ensures.value ∙ order.steps in
    let has = given_has f c.in_ok-order.order c.in_ok-room.room (map step_of c.as_slice.result.now) (map step_of c.steps_within-cut.result.0.now) all c.steps_within-cut.ensures.steps order.programs in
    let one = begun_by s c.args.scope.0 os f c.live_nodes-live.result c.in_ok-room.room (map step_of c.as_slice.result.now) (map step_of c.steps_within-cut.result.0.now) c.steps_within-cut.result.1 g c.live_nodes-live.ensures c.in_ok-room.ensures.room all c.steps_within-cut.ensures.steps
    c.steps_within-cut.ensures.fault (c.in_ok-done.ensures.steps f order has) in
    let whole = link_is s c.args.scope.0 os f c.steps_within-cut.result.1 g one (place_of c.args.place.now) c.args.origin.now (Some c.in-Some.fault) (sym c.first_fault-met.ensures ∙ c.in-Some.is) in (
      state ∙ sym (ap (λ (l : Linking). l.state) whole),
      ap (λ (x : Built). x.added) made ∙ sym (ap (λ (l : Linking). l.added) whole),
      ap (λ (x : Built). x.fault) made ∙ sym (ap (λ (l : Linking). l.fault) whole),
    ))

pub returns-clause-linked : goal.returns-clause-linked
returns-clause-linked c =
    let w = c.args.works.now in
    let s : State = state_of w in
    let v = c.link_steps.new.works in
    let g : Linking = linking v c.in_ok-done.done in
    let os : List ℕ = map (λ (n : ScopeId). n.0) c.args.outsides.items in
    if_both c.stand.result c.stand.ensures.stands c.stand.ensures.fault
    (λ b stands none f was.
    let at : fragment_for (templates_of v) c.args.origin.now ≡ Some f = ap (λ (ts : List Named). fragment_for ts c.args.origin.now) c.link_steps.ensures.templates ∙ was in
    let order = c.in_ok-order.ensures f was in
    let all = ap (map step_of) c.as_slice.ensures.value ∙ order.steps in
    let has = given_has f c.in_ok-order.order c.in_ok-room.room (map step_of c.as_slice.result.now) (map step_of c.steps_within-cut.result.0.now) all c.steps_within-cut.ensures.steps order.programs in
    let one = begun_by s c.args.scope.0 os f c.live_nodes-live.result c.in_ok-room.room (map step_of c.as_slice.result.now) (map step_of c.steps_within-cut.result.0.now) c.steps_within-cut.result.1 g c.live_nodes-live.ensures c.in_ok-room.ensures.room all c.steps_within-cut.ensures.steps
    c.steps_within-cut.ensures.fault (c.in_ok-done.ensures.steps f order has) in
    let quiet : first_of c.in_ok-done.done.fault c.steps_within-cut.result.1 ≡ None = sym c.first_fault-met.ensures ∙ c.in-None.is in
    let whole = link_is s c.args.scope.0 os f c.steps_within-cut.result.1 g one (place_of c.args.place.now) c.args.origin.now None quiet in
    let two = stands f at in (
      two.0 ∙ sym (ap (λ (l : Linking). l.state) whole),
      two.1 ∙ sym (ap (λ (l : Linking). l.added) whole),
      none ∙ (sym (first_none c.in_ok-done.done.fault c.steps_within-cut.result.1 quiet).0 ∙ sym (ap (λ (l : Linking). l.fault) whole)),
    ))
