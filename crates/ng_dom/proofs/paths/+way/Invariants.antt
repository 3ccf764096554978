use Rattle.std.proofs.Common.{◌≡◌, ◌+◌, ◌*◌, drop, map}
use Rattle.ng_dom.specs.Paths.{way, way_groups}
use Rattle.ng_dom.specs.Walks.{read, read_all, read_groups}
use Rattle.ng_dom.specs.Kept.{rooms_of}
use Rattle.ng_dom.proofs.paths.+way.Given as goal

abbrev pub decreases-way_node : goal.decreases-way_node
decreases-way_node l = 4 * l.deep + 0

abbrev pub decreases-way_all : goal.decreases-way_all
decreases-way_all l = 4 * l.deep + 1

abbrev pub decreases-way_groups : goal.decreases-way_groups
decreases-way_groups l = 4 * l.deep + 2

abbrev pub decreases-way_content : goal.decreases-way_content
decreases-way_content l = 4 * l.deep + 3

abbrev pub invariant-way_all-loop-m : goal.invariant-way_all-loop-m
invariant-way_all-loop-m l =
    way l.n l.rest (read_all (read l.deep (rooms_of l.nodes)) (drop l.m-index l.names))
    ≡ way l.n l.fn.i (read_all (read l.deep (rooms_of l.nodes)) l.names)

abbrev pub invariant-way_groups-loop-group : goal.invariant-way_groups-loop-group
invariant-way_groups-loop-group l =
    way_groups l.n l.rest (read_groups (read l.deep (rooms_of l.nodes)) (map (λ g. g.items) (drop l.group-index l.groups)))
    ≡ way_groups l.n l.fn.i (read_groups (read l.deep (rooms_of l.nodes)) (map (λ g. g.items) l.groups))
