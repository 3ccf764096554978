use Rattle.std.proofs.Common.{◌≡◌, ◌+◌, ◌*◌, ◌++◌, map, drop}
use Rattle.ng_drawing.specs.Cases.{cases_of}
use Rattle.ng_drawing.specs.Drawing.{followed_by}
use Rattle.ng_drawing.specs.Instance.{rendering_in, outlets_from}
use Rattle.ng_drawing.specs.InstanceOf.{state_of, instance_of, group_of as bodies_of, instances_of}
use Rattle.ng_html.specs.Seen.{forest_of}
use Rattle.ng_parts.specs.FragmentOf.{outlets_of}
use Rattle.ng_drawing.specs.Named.{fragments_in}
use Rattle.ng_compose.specs.Kept.{templates_of}
use Rattle.ng_render.specs.OverOf.{group_of, kept_over}
use Rattle.ng_render.proofs.Walks.{behind, bodies_list}
use Rattle.ng_render.proofs.Bodies.{size, size_all, size_in, no_fragments}
use Rattle.ng_render.proofs.rendering.+instance.Given as goal

abbrev pub decreases-rendered_instance : goal.decreases-rendered_instance
decreases-rendered_instance l = 3 * size (instance_of no_fragments l.i.now)

abbrev pub decreases-rendered_all : goal.decreases-rendered_all
decreases-rendered_all l = 3 * size_all (instances_of no_fragments l.bodies.now) + 1

abbrev pub decreases-rendered_outlets : goal.decreases-rendered_outlets
decreases-rendered_outlets l = 3 * size_in (outlets_from (map (bodies_of no_fragments) l.bodies.now)) + 2

abbrev pub invariant-rendered_all-loop-body : goal.invariant-rendered_all-loop-body
invariant-rendered_all-loop-body l =
    behind followed_by (forest_of l.forest) (bodies_list l.ground.store.now l.ground.scopes.now (map (instance_of (fragments_in (templates_of l.ground.all.now))) (drop l.body-index l.body-items)))
    ≡ bodies_list l.ground.store.now l.ground.scopes.now (map (instance_of (fragments_in (templates_of l.ground.all.now))) l.body-items)

abbrev pub invariant-rendered_outlets-loop-k : goal.invariant-rendered_outlets-loop-k
invariant-rendered_outlets-loop-k l =
    map group_of l.groups.items
    ++ rendering_in l.ground.store.now l.ground.scopes.now (kept_over l.over) (map state_of l.over.states.now) (cases_of (outlets_of l.outlets)) (drop l.k (outlets_of l.outlets))
    (outlets_from (map (bodies_of (fragments_in (templates_of l.ground.all.now))) (drop l.k l.bodies)))
    ≡ rendering_in l.ground.store.now l.ground.scopes.now (kept_over l.over) (map state_of l.over.states.now) (cases_of (outlets_of l.outlets)) (outlets_of l.outlets) (outlets_from (map (bodies_of (fragments_in (templates_of l.ground.all.now))) l.bodies))
