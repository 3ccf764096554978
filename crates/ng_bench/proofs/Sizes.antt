-- Trees of scopes have a root.
use Rattle.ng_scopes.proofs.Sound.{tree-root, among-root}

pub ruleset sizes = (tree-root, among-root)
