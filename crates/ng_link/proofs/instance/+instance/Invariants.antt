use Rattle.std.proofs.Common.{◌≡◌, ◌+◌, ◌*◌, ◌++◌, List, drop, map}
use Rattle.ng_drawing.specs.Instance.{instances_from}
use Rattle.ng_drawing.specs.InstanceOf.{instance_of as seen_instance, group_of as seen_group}
use Rattle.ng_drawing.specs.RolesOf.{role_of}
use Rattle.ng_drawing.specs.Named.{fragments_in}
use Rattle.ng_instances.specs.Instances.{Body, OutletState, read_bodies}
use Rattle.ng_instances.specs.InstanceOf.{body_of, outlet_of}
use Rattle.ng_link.specs.State.{roles_in, groups_in, body_at, state_of, templates_of}
use Rattle.ng_link.proofs.Ahead.{count_from, count_after}
use Rattle.ng_link.proofs.instance.+instance.Given as goal

abbrev pub invariant-outlets_in-loop-outlet : goal.invariant-outlets_in-loop-outlet
invariant-outlets_in-loop-outlet l =
    let go = body_at (state_of l.works) l.holder in
    let read = λ (ys : List OutletState). groups_in ys (map instances_from (read_bodies go ys)) in
    map (seen_group (fragments_in (templates_of l.works))) l.all.items ++ read (map outlet_of (drop l.outlet-index l.outlets)) ≡ read (map outlet_of l.outlets)

abbrev pub invariant-bodies_in-loop-body : goal.invariant-bodies_in-loop-body
invariant-bodies_in-loop-body l =
    let go = λ (b : Body). body_at (state_of l.works) l.holder b.path in
    record {
      roles : map role_of l.roles.items ++ roles_in (map body_of (drop l.body-index l.bodies)) ≡ roles_in (map body_of l.bodies);
      items : map (seen_instance (fragments_in (templates_of l.works))) l.items.items ++ map go (map body_of (drop l.body-index l.bodies)) ≡ map go (map body_of l.bodies);
    }

abbrev pub decreases-instance_on : goal.decreases-instance_on
decreases-instance_on l = 4 * count_from l.path.now l.works.now.instances.entries

abbrev pub decreases-outlets_in : goal.decreases-outlets_in
decreases-outlets_in l = 4 * count_after l.holder.now l.works.now.instances.entries + 3

abbrev pub decreases-bodies_in : goal.decreases-bodies_in
decreases-bodies_in l = 4 * count_after l.holder.now l.works.now.instances.entries + 2

abbrev pub decreases-body_on : goal.decreases-body_on
decreases-body_on l = 4 * count_after l.holder.now l.works.now.instances.entries + 1
