use Rattle.std.proofs.Common.{◌≡◌, ◌++◌, map, drop}
use Rattle.ng_blocks.specs.Plans.{row_of}
use Rattle.ng_blocks.proofs.planning.sources.Given as goal

abbrev pub invariant-loop-key : goal.invariant-loop-key
invariant-loop-key l = l.sources ++ map (row_of l.rows.keys) (drop l.key-index l.entries) ≡ map (row_of l.rows.keys) l.entries
