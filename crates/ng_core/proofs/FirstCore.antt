-- The root scope's object stands, and it has no parent.
use Rattle.std.proofs.Common.{◌<◌, ℕ, zero, suc, arith}
use Rattle.ng_behaviour.specs.ScopeObjects.{AreAmong}
use Rattle.ng_behaviour.specs.Scopes.{object_at, root_of}
use Rattle.ng_core.specs.Frames.{HaveParents}

root_below : (n s : ℕ) → 0 < n → s < 1 → object_at (root_of 0) s < n
root_below n zero h l = h
root_below n (suc s) h l = absurd (omega arith)

pub root_among : (n : ℕ) → 0 < n → AreAmong n (root_of 0)
root_among n h = record { below = λ s l. root_below n s h l }

pub root_parents : HaveParents (root_of 0)
root_parents zero p e = absurd (cc)
root_parents (suc s) p e = absurd (cc)

pub ruleset first = (root_among, root_parents)
