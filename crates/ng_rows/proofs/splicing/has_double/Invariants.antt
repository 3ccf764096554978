use Rattle.std.proofs.Common.{◌≡◌, ◌++◌, drop, false}
use Rattle.ng_blocks.specs.Plans.{has_double}
use Rattle.ng_rows.proofs.splicing.has_double.Given as goal

abbrev pub invariant-loop-key : goal.invariant-loop-key
invariant-loop-key l = record { all : l.set.keys ++ drop l.key-index l.key-items ≡ l.key-items; differ : has_double l.set.keys ≡ false }
