use Rattle.std.proofs.Common.{◌≡◌, ◌++◌, drop, map}
use Rattle.ng_drawing.specs.Template.{bound}
use Rattle.ng_build.specs.Shape.{own_node}
use Rattle.ng_build.proofs.building.note_bound.Given as goal

abbrev pub invariant-loop-k : goal.invariant-loop-k
invariant-loop-k l = l.spots.items ++ map (own_node l.n.made.0 (bound l.b)) (drop l.k-index l.own) ≡ l.initial.spots.items ++ map (own_node l.n.made.0 (bound l.b)) l.own
