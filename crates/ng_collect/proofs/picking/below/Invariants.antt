use Rattle.std.proofs.Common.{◌≡◌, filter}
use Rattle.ng_collect.specs.Picks.{is_below}
use Rattle.ng_collect.proofs.picking.below.Given as goal

abbrev pub invariant-loop-p : goal.invariant-loop-p
invariant-loop-p l = l.kept.items ≡ filter (is_below l.limit) l.yielded
