use Rattle.std.proofs.Common.{◌≡◌, ◌++◌, take, drop}
use Rattle.ng_dom.specs.Lists.{among, without_first}
use Rattle.ng_dom.proofs.edits.place_of.Given as goal

abbrev pub invariant-loop-i : goal.invariant-loop-i
invariant-loop-i l = (among l.n (drop l.i l.names) ≡ among l.n l.names) × (take l.i l.names ++ without_first l.n (drop l.i l.names) ≡ without_first l.n l.names)
