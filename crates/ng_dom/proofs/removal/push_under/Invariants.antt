use Rattle.std.proofs.Common.{◌≡◌, ◌++◌, drop}
use Rattle.ng_dom.specs.Removal.{is_under, chosen}
use Rattle.ng_dom.specs.Kept.{rooms_of}
use Rattle.ng_dom.proofs.removal.push_under.Given as goal

abbrev pub invariant-loop-n : goal.invariant-loop-n
invariant-loop-n l =
    l.left.items ++ chosen (is_under (rooms_of l.nodes) l.parent) (drop l.n-index l.names)
    ≡ l.initial.left.items ++ chosen (is_under (rooms_of l.nodes) l.parent) l.names
