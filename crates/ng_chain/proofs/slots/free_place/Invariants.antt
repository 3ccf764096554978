use Rattle.std.proofs.Common.{◌≡◌, take}
use Rattle.std.specs.Prelude.{count_by, is_some}
use Rattle.ng_chain.proofs.slots.free_place.Given as goal

abbrev pub invariant-loop-i : goal.invariant-loop-i
invariant-loop-i l = count_by is_some (take l.i l.walks) ≡ l.i
