use Rattle.std.proofs.Common.{◌≡◌, drop}
use Rattle.ng_store.proofs.shapes.are_same.Given as goal

-- where what is left is the same, all is
abbrev pub invariant-loop-name : goal.invariant-loop-name
invariant-loop-name l = drop l.name-index l.names ≡ l.left → l.names ≡ l.others
