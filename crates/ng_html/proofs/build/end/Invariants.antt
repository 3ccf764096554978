use Rattle.std.proofs.Common.{◌≡◌, length}
use Rattle.ng_html.specs.Building.{close}
use Rattle.ng_html.specs.Seen.{forest_of}
use Rattle.ng_html.specs.TreeSeen.{arounds}
use Rattle.ng_html.proofs.build.end.Given as goal

abbrev pub invariant-loop-p : goal.invariant-loop-p
invariant-loop-p l = close (arounds l.stack.items) (forest_of l.done) l.fn.name l.place ≡ close (arounds l.initial.stack.items) (forest_of l.initial.done) l.fn.name l.place

abbrev pub decreases-loop-p : goal.decreases-loop-p
decreases-loop-p l = length (arounds l.stack.items)
