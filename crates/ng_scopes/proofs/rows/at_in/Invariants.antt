use Rattle.std.proofs.Common.{◌≡◌, drop}
use Rattle.ng_behaviour.specs.Scopes.{down}
use Rattle.ng_scopes.specs.Rows.{tree_of}
use Rattle.ng_scopes.proofs.rows.at_in.Given as goal

abbrev pub invariant-loop-number : goal.invariant-loop-number
invariant-loop-number l = down (tree_of l.rows) l.scope (drop l.number-index l.p) ≡ down (tree_of l.rows) 0 l.p
