use Rattle.std.proofs.Common.{◌≡◌, ◌+◌, ◌*◌, drop, map}
use Rattle.ng_dom.specs.Printed.{seek, level, level_groups}
use Rattle.ng_dom.specs.Walks.{read, read_all, read_groups}
use Rattle.ng_dom.specs.Kept.{rooms_of}
use Rattle.ng_dom.proofs.seeking.+sought.Given as goal

abbrev pub decreases-seek_node : goal.decreases-seek_node
decreases-seek_node l = 8 * l.deep + 0

abbrev pub decreases-seek_all : goal.decreases-seek_all
decreases-seek_all l = 8 * l.deep + 1

abbrev pub decreases-seek_groups : goal.decreases-seek_groups
decreases-seek_groups l = 8 * l.deep + 2

abbrev pub decreases-seek_content : goal.decreases-seek_content
decreases-seek_content l = 8 * l.deep + 4

abbrev pub decreases-seek_anchor : goal.decreases-seek_anchor
decreases-seek_anchor l = 8 * l.deep + 3

abbrev pub invariant-seek_all-loop-n : goal.invariant-seek_all-loop-n
invariant-seek_all-loop-n l =
    seek l.until l.rest (level (read_all (read l.deep (rooms_of l.nodes)) (drop l.n-index l.names)))
    ≡ seek l.until l.fn.left (level (read_all (read l.deep (rooms_of l.nodes)) l.names))

abbrev pub invariant-seek_groups-loop-group : goal.invariant-seek_groups-loop-group
invariant-seek_groups-loop-group l =
    seek l.until l.rest (level_groups (read_groups (read l.deep (rooms_of l.nodes)) (map (λ g. g.items) (drop l.group-index l.groups))))
    ≡ seek l.until l.fn.left (level_groups (read_groups (read l.deep (rooms_of l.nodes)) (map (λ g. g.items) l.groups)))
