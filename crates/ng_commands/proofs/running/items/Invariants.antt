use Rattle.std.proofs.Common.{◌≡◌, take, length}
use Rattle.std.specs.List.{AllByRecursion}
use Rattle.ng_base.specs.Objects.{StandsAmong}
use Rattle.ng_language.specs.Objects.{items_at}
use Rattle.ng_commands.proofs.running.items.Given as goal

abbrev pub invariant-loop-i : goal.invariant-loop-i
invariant-loop-i l = (l.values ≡ take l.i (items_at l.store l.o.0)) × AllByRecursion (StandsAmong (length l.store)) l.values
