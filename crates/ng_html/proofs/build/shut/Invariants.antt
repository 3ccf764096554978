use Rattle.std.proofs.Common.{◌≡◌, length}
use Rattle.ng_html.specs.Building.{shut_by}
use Rattle.ng_html.specs.Seen.{forest_of}
use Rattle.ng_html.specs.TreeSeen.{arounds}
use Rattle.ng_html.proofs.build.shut.Given as goal

abbrev pub invariant-loop-stack : goal.invariant-loop-stack
invariant-loop-stack l = shut_by l.name (arounds l.stack.items) (forest_of l.done) ≡ shut_by l.name (arounds l.initial.stack.items) (forest_of l.initial.done)

abbrev pub decreases-loop-stack : goal.decreases-loop-stack
decreases-loop-stack l = length (arounds l.stack.items)
