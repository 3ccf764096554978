use Rattle.std.proofs.Common.{◌≡◌, ◌+◌, ◌++◌, ℕ, List, Some, None, true, ap, sym, subst, ◌∙◌, drop, map, arith, append-nil}
use Rattle.std.specs.List.Sorted.{IsStrictlySortedBy}
use Rattle.std.specs.Map.{lookup, keys_of as map_keys}
use Rattle.std.specs.Option.{option_copied}
use Rattle.std.specs.Ordering.{is_lt}
use Rattle.std.specs.Prelude.{option_map}
use Rattle.std.proofs.lemmas.List.{drop_all}
use Rattle.ng_base.specs.Order.{path_cmp}
use Rattle.ng_drawing.specs.Instance.{Instance, SiteState, Group, instance_with, instances_from, outlets_from}
use Rattle.ng_drawing.specs.InstanceOf.{state_of as seen_state, instance_of as seen_instance, group_of as seen_group}
use Rattle.ng_drawing.specs.Roles.{Role}
use Rattle.ng_drawing.specs.RolesOf.{role_of}
use Rattle.ng_drawing.specs.declared.origin.Origin.{Origin}
use Rattle.ng_drawing.specs.Named.{fragments_in}
use Rattle.ng_instances.specs.Instances.{Body, OutletState, Linked, is_path, linked_at, read_bodies}
use Rattle.ng_instances.specs.InstanceOf.{body_of, outlet_of, linked_of}
use Rattle.ng_link.specs.State.{templates_of, site_states, roles_in, groups_in, nothing_linked, instance_join, instance_at, body_at, state_of}
use Rattle.ng_instances.specs.declared.instances.Body as code_body
use Rattle.ng_instances.specs.declared.instances.Linked as code
use Rattle.ng_instances.specs.declared.instances.OutletState as code_outlet
use Rattle.ng_link.specs.declared.works.Works.{Works}
use Rattle.ng_link.proofs.Ahead.{after_fewer, from_later, less_is, read_ahead}
use Rattle.ng_instances.proofs.Listed.{keys-seen}
use Rattle.ng_build.proofs.Loops.{next_seen, pushed}
use Rattle.ng_instances.proofs.Places.{linked_seen}
use Rattle.ng_link.proofs.ReadOff.{read_none}
use Rattle.ng_link.proofs.Rolled.{instance_made, group_made}
use Rattle.ng_link.proofs.instance.+instance.Goals as goal

-- an instance as the code's table has it
found : (w : Works) (p : List ℕ) (i : code.Linked) → lookup (is_path p) w.instances.entries ≡ Some i → linked_at p (state_of w).instances ≡ Some (linked_of (templates_of w) p i)
found w p i at = linked_seen (templates_of w) p w.instances.entries ∙ ap (option_map (linked_of (templates_of w) p)) at

-- some bodies with what they stand for
abbrev group_with : (List ℕ → Instance) → List Body → Group
group_with go bs = (roles_in bs, instances_from (map (λ (b : Body). go b.path) bs))

pub bodies_in-returns : goal.bodies_in-returns
bodies_in-returns t c =
    let go = λ (b : Body). body_at (state_of c.args.works.now) c.args.holder.now b.path in
    let seen = seen_instance (fragments_in (templates_of c.args.works.now)) in
    let bodies = c.args.bodies.now in
    let rs = map role_of c.loop-body.roles.items in
    let is = map seen c.loop-body.items.items in
    let none = drop_all c.loop-body.body-index bodies c.loop-body-test.false in
    let roles : rs ≡ roles_in (map body_of bodies) =
    sym (append-nil rs) ∙ (ap (λ (bs : List code_body.Body). rs ++ roles_in (map body_of bs)) (sym none) ∙ c.loop-body.invariant.roles) in
    let all : is ≡ map go (map body_of bodies) =
    sym (append-nil is) ∙ (ap (λ (bs : List code_body.Body). is ++ map go (map body_of bs)) (sym none) ∙ c.loop-body.invariant.items) in
    group_made (fragments_in (templates_of c.args.works.now)) (record { roles = c.loop-body.roles; items = c.loop-body.items })
    ∙ (ap (λ (xs : List Role). (xs, instances_from is)) roles ∙ ap (λ (xs : List Instance). (roles_in (map body_of bodies), instances_from xs)) all)

pub body_on-instance_on-requires : goal.body_on-instance_on-requires
body_on-instance_on-requires t c =
    let w = c.args.works.now in
    let o = path_cmp c.args.holder.now c.args.path.now in
    let on : is_lt o ≡ true = cc (c.cmp.ensures, c.is_lt.ensures, c.if-is_lt.true) in
    let fewer = from_later c.args.holder.now c.args.path.now w.instances.entries (less_is o on) in
    omega (arith, c.decreases, fewer)

pub instance_on-returns-in_default : goal.instance_on-returns-in_default
instance_on-returns-in_default t c =
    let w = c.args.works.now in
    let s = state_of w in
    let p = c.args.path.now in
    let none : linked_at p s.instances ≡ None = linked_seen (templates_of w) p w.instances.entries ∙ ap (option_map (linked_of (templates_of w) p)) (sym c.get.ensures.value ∙ ap option_copied c.in_default.is) in
    c.nothing.ensures ∙ sym (read_none nothing_linked (instance_join s.watchers s.resting s.controls) s.instances p none)

pub instance_on-outlets_in-requires : goal.instance_on-outlets_in-requires
instance_on-outlets_in-requires t c =
    let w = c.args.works.now in
    let p = c.args.path.now in
    let fewer = after_fewer p w.instances.entries c.in-Some.one.now (sym c.get.ensures.value ∙ ap option_copied c.in-Some.is) in
    omega (arith, c.decreases, fewer)

pub instance_on-returns : goal.instance_on-returns
instance_on-returns t c =
    let w = c.args.works.now in
    let s = state_of w in
    let p = c.args.path.now in
    let i = c.in-Some.one.now in
    let l : Linked = linked_of (templates_of w) p i in
    let go = body_at s p in
    let ordered : IsStrictlySortedBy path_cmp (map_keys s.instances) = subst (λ (ps : List (List ℕ)). IsStrictlySortedBy path_cmp ps) (sym (keys-seen (linked_of (templates_of w)) w.instances.entries)) c.len.ensures.ordered in
    let at : linked_at p s.instances ≡ Some l = found w p i (sym c.get.ensures.value ∙ ap option_copied c.in-Some.is) in
    let read : instance_at s.watchers s.resting s.controls s.instances p ≡ instance_join s.watchers s.resting s.controls l (read_bodies go l.page.outlets) = read_ahead nothing_linked (instance_join s.watchers s.resting s.controls) s.instances p l ordered at in
    let read_groups = λ (os : List OutletState). groups_in os (map instances_from (read_bodies go os)) in
    let many : map (seen_group (fragments_in (templates_of w))) c.in_ok-outlets.outlets.items ≡ read_groups l.page.outlets =
    c.in_ok-outlets.ensures ∙ ap (λ (os : List code_outlet.OutletState). read_groups (map outlet_of os)) c.as_slice.ensures.value in
    let outlets : List Group = map (seen_group (fragments_in (templates_of w))) c.in_ok-outlets.outlets.items in
    instance_made (fragments_in (templates_of w)) (record { origin = c.in_ok-copied.field-0; scope = i.scope; sites = c.in_ok-sites.sites; outlets = c.in_ok-outlets.outlets })
    ∙ (ap (λ (o : Origin). instance_with (fragments_in (templates_of w) o) l.page.scope (map seen_state c.in_ok-sites.sites.items) (outlets_from outlets)) c.in_ok-copied.ensures
    ∙ (ap (λ (xs : List SiteState). instance_with l.fragment l.page.scope xs (outlets_from outlets)) c.in_ok-sites.ensures
    ∙ (ap (λ (os : List Group). instance_with l.fragment l.page.scope (site_states s.watchers s.resting s.controls l.page) (outlets_from os)) many ∙ sym read)))

pub outlets_in-loop-outlet-preserved : goal.outlets_in-loop-outlet-preserved
outlets_in-loop-outlet-preserved t c =
    let w = c.args.works.now in
    let go = body_at (state_of w) c.args.holder.now in
    let seen = seen_group (fragments_in (templates_of w)) in
    let os = c.args.outlets.now in
    let i = c.loop-outlet.outlet-index in
    let x = c.outlet-item.result in
    let read = λ (ys : List OutletState). groups_in ys (map instances_from (read_bodies go ys)) in
    let group : List Body → Group = group_with go in
    let items = c.loop-outlet.all.items in
    let one : seen c.in_ok-bodies_in.field-0 ≡ group (outlet_of x).bodies =
    c.in_ok-bodies_in.ensures ∙ ap (λ (bs : List code_body.Body). group (map body_of bs)) c.as_slice.ensures.value in
    ap (λ is. map seen is ++ read (map outlet_of (drop (i + 1) os))) c.in_ok-push.ensures.items
    ∙ (pushed seen items c.in_ok-bodies_in.field-0 (group (outlet_of x).bodies) (read (map outlet_of (drop (i + 1) os))) one
    ∙ (sym (ap (λ (ys : List OutletState). map seen items ++ read ys) (next_seen outlet_of os i x c.loop-outlet-test.true c.outlet-item.is)) ∙ c.loop-outlet.invariant))
