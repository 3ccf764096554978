use Rattle.std.proofs.Common.{◌≡◌, ◌+◌, ◌*◌, drop, map}
use Rattle.ng_html.specs.Seen.{forest_of}
use Rattle.ng_dom.specs.Nodes.{followed_by}
use Rattle.ng_dom.specs.Walks.{told, told_all, told_groups}
use Rattle.ng_dom.specs.Kept.{rooms_of}
use Rattle.ng_dom.proofs.printing.+told.Given as goal

abbrev pub decreases-add_node : goal.decreases-add_node
decreases-add_node l = 4 * l.deep + 0

abbrev pub decreases-add_all : goal.decreases-add_all
decreases-add_all l = 4 * l.deep + 1

abbrev pub decreases-add_groups : goal.decreases-add_groups
decreases-add_groups l = 4 * l.deep + 2

abbrev pub decreases-add_content : goal.decreases-add_content
decreases-add_content l = 4 * l.deep + 3

abbrev pub invariant-add_all-loop-n : goal.invariant-add_all-loop-n
invariant-add_all-loop-n l =
    followed_by (forest_of l.into) (told_all (told l.deep (rooms_of l.nodes)) (drop l.n-index l.names))
    ≡ followed_by (forest_of l.initial.into) (told_all (told l.deep (rooms_of l.nodes)) l.names)

abbrev pub invariant-add_groups-loop-group : goal.invariant-add_groups-loop-group
invariant-add_groups-loop-group l =
    followed_by (forest_of l.into) (told_groups (told l.deep (rooms_of l.nodes)) (map (λ g. g.items) (drop l.group-index l.groups)))
    ≡ followed_by (forest_of l.initial.into) (told_groups (told l.deep (rooms_of l.nodes)) (map (λ g. g.items) l.groups))
