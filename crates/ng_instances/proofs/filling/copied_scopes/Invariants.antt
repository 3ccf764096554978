use Rattle.std.proofs.Common.{◌≡◌, ◌++◌, drop}
use Rattle.ng_instances.proofs.filling.copied_scopes.Given as goal

abbrev pub invariant-loop-scope : goal.invariant-loop-scope
invariant-loop-scope l = l.copies.items ++ drop l.scope-index l.scopes ≡ l.scopes
