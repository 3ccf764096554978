use Rattle.std.proofs.Common.{◌≡◌, ◌+◌, ◌*◌, drop, map}
use Rattle.ng_dom.specs.Asked.{first_with_id, group_with_id}
use Rattle.ng_dom.specs.Walks.{read, read_all, read_groups}
use Rattle.ng_dom.specs.Kept.{rooms_of}
use Rattle.ng_dom.proofs.finding.+found.Given as goal

abbrev pub decreases-find_node : goal.decreases-find_node
decreases-find_node l = 4 * l.deep + 0

abbrev pub decreases-find_all : goal.decreases-find_all
decreases-find_all l = 4 * l.deep + 1

abbrev pub decreases-find_groups : goal.decreases-find_groups
decreases-find_groups l = 4 * l.deep + 2

abbrev pub decreases-find_content : goal.decreases-find_content
decreases-find_content l = 4 * l.deep + 3

abbrev pub invariant-find_all-loop-n : goal.invariant-find_all-loop-n
invariant-find_all-loop-n l =
    first_with_id l.id (read_all (read l.deep (rooms_of l.nodes)) (drop l.n-index l.names))
    ≡ first_with_id l.id (read_all (read l.deep (rooms_of l.nodes)) l.names)

abbrev pub invariant-find_groups-loop-group : goal.invariant-find_groups-loop-group
invariant-find_groups-loop-group l =
    group_with_id l.id (read_groups (read l.deep (rooms_of l.nodes)) (map (λ g. g.items) (drop l.group-index l.groups)))
    ≡ group_with_id l.id (read_groups (read l.deep (rooms_of l.nodes)) (map (λ g. g.items) l.groups))
