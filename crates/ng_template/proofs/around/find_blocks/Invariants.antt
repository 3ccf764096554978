use Rattle.std.proofs.Common.{◌≡◌}
use Rattle.ng_html.specs.Seen.{node_of}
use Rattle.ng_template.specs.Around.{at_place, around_node}
use Rattle.ng_template.specs.AroundOf.{found_of}
use Rattle.ng_template.proofs.Blocks.{rest}
use Rattle.ng_template.proofs.around.find_blocks.Given as goal

abbrev pub invariant-loop-room : goal.invariant-loop-room
invariant-loop-room l = rest l.place l.r l.slots (node_of l.e) (found_of l.found) l.has_switch l.room l.limit ≡ at_place l.place (around_node l.r l.slots l.in_switch (node_of l.e))

abbrev pub decreases-loop-room : goal.decreases-loop-room
decreases-loop-room l = l.room
