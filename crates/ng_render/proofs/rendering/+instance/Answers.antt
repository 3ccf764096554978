use Rattle.std.proofs.Common.{◌≡◌, ◌+◌, ◌++◌, ◌∷◌, [], arith, rules, ap, sym, subst, ◌∙◌, map, drop, option_map, Ok, None}
use Rattle.std.proofs.lemmas.List.{map-append}
use Rattle.std.specs.Prelude.{unwrap_or, slice_get}
use Rattle.ng_drawing.specs.Cases.{cases_of}
use Rattle.ng_drawing.specs.Drawing.{followed_by, shown_as}
use Rattle.ng_drawing.specs.Instance.{instances_from, outlets_from, instance_now, outlet_at, rendering, rendering_all, rendering_in}
use Rattle.ng_drawing.specs.RolesOf.{role_of}
use Rattle.ng_drawing.specs.InstanceOf.{state_of, instance_of, group_of as bodies_of, instances_of}
use Rattle.ng_drawing.specs.Template.{Fragment, no_fragment}
use Rattle.ng_html.specs.Seen.{forest_of}
use Rattle.ng_parts.specs.FragmentOf.{fragment_of, outlets_of}
use Rattle.ng_drawing.specs.Named.{fragments_in}
use Rattle.ng_compose.specs.Kept.{templates_of}
use Rattle.ng_parts.specs.Seen.{parts_of}
use Rattle.ng_parts.specs.SiteOf.{site_of}
use Rattle.ng_copies.specs.WholeOf.{whole_of}
use Rattle.ng_render.specs.OverOf.{group_of, kept_over, NamesStand, InstancesStand, OutletsStand}
use Rattle.ng_render.proofs.Walks.{behind, bodies_list, bodies_walk, walk_turn, walk_unfit, walk_faulted, walk_last, body_stands, bodies_stand, gives_err}
use Rattle.ng_render.proofs.Bodies.{size_all, size_in, no_fragments, size_out, size_within, sizes_within, instances_out, roles_out, instance_is, sites_stand, filled_by, filled_turn}
use Rattle.ng_render.proofs.rendering.+instance.Goals as goal

pub rendered_all-rendered_instance-requires : goal.rendered_all-rendered_instance-requires
rendered_all-rendered_instance-requires t c =
    let ground = c.args.ground.now in
    let seen = instance_of (fragments_in (templates_of ground.all.now)) in
    let whole = instances_out (fragments_in (templates_of ground.all.now)) c.args.bodies.now ∙ ap (λ xs. instances_from (map seen xs)) (sym c.deref-body-items.ensures.value) in
    let count = ap size_all (instances_out no_fragments c.args.bodies.now ∙ ap (λ xs. instances_from (map (instance_of no_fragments) xs)) (sym c.deref-body-items.ensures.value)) in
    let less = size_within (instance_of no_fragments) c.deref-body-items.result.now c.loop-body.body-index c.body-item.result c.loop-body-test.true c.body-item.is in
    (omega (arith, count, less, c.decreases), body_stands ground.store.now ground.scopes.now seen c.deref-body-items.result.now c.loop-body.body-index c.body-item.result c.loop-body-test.true c.body-item.is (subst (InstancesStand ground.store.now ground.scopes.now) whole c.requires))

pub rendered_all-returns-in_err-more : goal.rendered_all-returns-in_err-more
rendered_all-returns-in_err-more t c =
    let ground = c.args.ground.now in
    let all = fragments_in (templates_of ground.all.now) in
    let whole = ap (rendering_all ground.store.now ground.scopes.now) (instances_out all c.args.bodies.now ∙ ap (λ xs. instances_from (map (instance_of all) xs)) (sym c.deref-body-items.ensures.value)) in
    gives_err (option_map forest_of) (rendering_all ground.store.now ground.scopes.now (instances_of all c.args.bodies.now)) c.from_residual.result c.in_err-more.field-0.0 c.from_residual.ensures.1
    (λ m. whole ∙ (sym c.loop-body.invariant
    ∙ walk_faulted (rendering ground.store.now ground.scopes.now) (bodies_list ground.store.now ground.scopes.now) (bodies_walk ground.store.now ground.scopes.now) (instance_of all) c.deref-body-items.result.now c.loop-body.body-index c.body-item.result
    (forest_of c.loop-body.forest) c.in_err-more.field-0.0 c.loop-body-test.true c.body-item.is (c.in_err-more.ensures m)))

pub rendered_all-returns-in_default : goal.rendered_all-returns-in_default
rendered_all-returns-in_default t c =
    let ground = c.args.ground.now in
    let all = fragments_in (templates_of ground.all.now) in
    let whole = ap (rendering_all ground.store.now ground.scopes.now) (instances_out all c.args.bodies.now ∙ ap (λ xs. instances_from (map (instance_of all) xs)) (sym c.deref-body-items.ensures.value)) in
    let unfit : rendering ground.store.now ground.scopes.now (instance_of all c.body-item.result) ≡ Ok None = search rules in
    whole ∙ (sym c.loop-body.invariant
    ∙ walk_unfit (rendering ground.store.now ground.scopes.now) (bodies_list ground.store.now ground.scopes.now) (bodies_walk ground.store.now ground.scopes.now) (instance_of all) c.deref-body-items.result.now c.loop-body.body-index c.body-item.result
    (forest_of c.loop-body.forest) c.loop-body-test.true c.body-item.is unfit)

pub rendered_all-loop-body-preserved : goal.rendered_all-loop-body-preserved
rendered_all-loop-body-preserved t c =
    let ground = c.args.ground.now in
    let seen = instance_of (fragments_in (templates_of ground.all.now)) in
    let one = rendering ground.store.now ground.scopes.now in
    let many = bodies_list ground.store.now ground.scopes.now in
    let xs = c.deref-body-items.result.now in
    let shows : one (seen c.body-item.result) ≡ shown_as (forest_of c.in-Some.more) = search rules in
    ap (λ f. behind followed_by f (many (map seen (drop (c.loop-body.body-index + 1) xs)))) c.in_ok-append.ensures
    ∙ (walk_turn one many (bodies_walk ground.store.now ground.scopes.now) seen xs c.loop-body.body-index c.body-item.result (forest_of c.loop-body.forest) (forest_of c.in-Some.more) (omega arith) c.body-item.is shows
    ∙ c.loop-body.invariant)

pub rendered_all-returns : goal.rendered_all-returns
rendered_all-returns t c =
    let ground = c.args.ground.now in
    let all = fragments_in (templates_of ground.all.now) in
    let whole = ap (rendering_all ground.store.now ground.scopes.now) (instances_out all c.args.bodies.now ∙ ap (λ xs. instances_from (map (instance_of all) xs)) (sym c.deref-body-items.ensures.value)) in
    whole ∙ (sym c.loop-body.invariant
    ∙ walk_last (rendering ground.store.now ground.scopes.now) (bodies_list ground.store.now ground.scopes.now) (bodies_walk ground.store.now ground.scopes.now) (instance_of all) c.deref-body-items.result.now c.loop-body.body-index
    (forest_of c.loop-body.forest) c.loop-body-test.false)

pub rendered_instance-rendered_outlets-requires : goal.rendered_instance-rendered_outlets-requires
rendered_instance-rendered_outlets-requires t c =
    let count = size_out c.args.i.now in
    let outlets = ap (λ xs. size_in (outlets_from (map (bodies_of no_fragments) xs))) c.as_slice-2.ensures.value in
    let ground = c.args.ground.now in
    let all = fragments_in (templates_of ground.all.now) in
    let h = sites_stand ground.store.now ground.scopes.now all c.args.i.now c.requires in (
      omega (arith, count, outlets, c.decreases),
      (
        record { names = subst (NamesStand ground.store.now ground.scopes.now) (ap (map state_of) (sym c.as_slice.ensures.value)) h.0; known = tt },
        subst (λ xs. OutletsStand ground.store.now ground.scopes.now (outlets_from (map (bodies_of all) xs))) (sym c.as_slice-2.ensures.value) h.1,
      ),
    )

pub rendered_instance-returns : goal.rendered_instance-returns
rendered_instance-returns t c =
    let ground = c.args.ground.now in
    let all = fragments_in (templates_of ground.all.now) in
    let sites = map site_of c.sites.result.now in
    let states = map state_of c.as_slice.result.now in
    let os = outlets_of c.outlets.result.now in
    let groups = ap (map group_of) c.as_slice-3.ensures.value
    ∙ (c.in_ok-groups.ensures.groups
    ∙ ap (λ xs. rendering_in ground.store.now ground.scopes.now (instance_now ground.store.now ground.scopes.now sites states) states (cases_of os) os (outlets_from (map (bodies_of all) xs))) c.as_slice-2.ensures.value) in
    let f : Fragment = whole_of c.in-Some.whole in
    let of : fragment_of c.fragment-fragment.result.now ≡ f = c.fragment-fragment.ensures in
    let is = instance_is ground.store.now ground.scopes.now all c.args.i.now f sites states os (map group_of c.as_slice-3.result.now) (parts_of c.parts.result.now)
    (ap (λ o. unwrap_or o no_fragment) (sym c.in_ok-whole.ensures.fragment ∙ ap (option_map whole_of) c.in-Some.is))
    (c.sites.ensures ∙ ap (λ (g : Fragment). g.sites) of) (ap (map state_of) c.as_slice.ensures.value) (c.outlets.ensures ∙ ap (λ (g : Fragment). g.outlets) of) groups (c.parts.ensures ∙ ap (λ (g : Fragment). g.parts) of) in
    rw is c.rendered.ensures

pub rendered_outlets-rendered_all-requires : goal.rendered_outlets-rendered_all-requires
rendered_outlets-rendered_all-requires t c =
    let ground = c.args.ground.now in
    let less = sizes_within (bodies_of no_fragments) c.args.bodies.now c.loop-k.k c.index-bodies-k.result c.loop-k-test.true c.index-bodies-k.is in
    (omega (arith, less, c.decreases), bodies_stand ground.store.now ground.scopes.now (bodies_of (fragments_in (templates_of ground.all.now))) c.args.bodies.now c.loop-k.k c.index-bodies-k.result c.loop-k-test.true c.index-bodies-k.is c.requires.stands)

pub rendered_outlets-loop-k-preserved : goal.rendered_outlets-loop-k-preserved
rendered_outlets-loop-k-preserved t c =
    let ground = c.args.ground.now in
    let all = fragments_in (templates_of ground.all.now) in
    let now = kept_over c.args.over.now in
    let states = map state_of c.args.over.now.states.now in
    let os = outlets_of c.args.outlets.now in
    let x = c.index-bodies-k.result in
    let rest = filled_by ground.store.now ground.scopes.now now states (cases_of os) (drop (c.loop-k.k + 1) os) (map (bodies_of all) (drop (c.loop-k.k + 1) c.args.bodies.now)) in
    let place = outlet_at now states (cases_of os) (slice_get os c.loop-k.k) in
    let roles = ap (map role_of) c.as_slice.ensures.value ∙ sym (roles_out all x) in
    let shows = c.in_ok-filled_at.ensures
    ∙ (ap (λ rs. place rs (group_of c.in_ok-group.group)) roles
    ∙ ap (place (bodies_of all x).0) (c.in_ok-group.ensures (rendering_all ground.store.now ground.scopes.now (instances_of all x)) c.rendered_all.ensures)) in
    ap (λ gs. gs ++ rest) (ap (map group_of) c.in_ok-push.ensures.items ∙ map-append group_of c.loop-k.groups.items (c.in_ok-filled_at.field-0 ∷ []))
    ∙ (filled_turn ground.store.now ground.scopes.now now states (cases_of os) (bodies_of all) os c.args.bodies.now c.loop-k.k x (map group_of c.loop-k.groups.items) (group_of c.in_ok-filled_at.field-0) c.loop-k-test.true c.index-bodies-k.is shows
    ∙ c.loop-k.invariant)
