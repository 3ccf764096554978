use Rattle.std.proofs.Common.{◌≡◌, drop}
use Rattle.ng_base.specs.Order.{path_cmp}
use Rattle.ng_base.proofs.path.order_of.Given as goal

abbrev pub invariant-loop-i : goal.invariant-loop-i
invariant-loop-i l = path_cmp (drop l.i l.numbers) (drop l.i l.others) ≡ path_cmp l.numbers l.others
