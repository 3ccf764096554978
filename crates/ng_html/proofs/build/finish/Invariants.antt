use Rattle.std.proofs.Common.{◌≡◌, length}
use Rattle.ng_html.specs.Building.{finish_of}
use Rattle.ng_html.specs.Seen.{forest_of}
use Rattle.ng_html.specs.TreeSeen.{arounds}
use Rattle.ng_html.proofs.build.finish.Given as goal

abbrev pub invariant-loop-p : goal.invariant-loop-p
invariant-loop-p l = finish_of l.total (arounds l.stack.items) (forest_of l.done) ≡ finish_of l.total (arounds l.initial.stack.items) (forest_of l.initial.done)

abbrev pub decreases-loop-p : goal.decreases-loop-p
decreases-loop-p l = length (arounds l.stack.items)
