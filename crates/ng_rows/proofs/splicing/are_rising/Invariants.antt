use Rattle.std.proofs.Common.{◌≡◌, drop}
use Rattle.ng_rows.specs.Splices.{rise_from}
use Rattle.ng_rows.proofs.splicing.are_rising.Given as goal

abbrev pub invariant-loop-key : goal.invariant-loop-key
invariant-loop-key l = rise_from l.least (drop l.key-index l.keys) ≡ rise_from 0 l.keys
