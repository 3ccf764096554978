use Rattle.std.proofs.Common.{◌≡◌, ◌++◌, drop}
use Rattle.std.specs.List.{flat_map, enumerate_from}
use Rattle.ng_collect.specs.Picks.{user_pick}
use Rattle.ng_collect.proofs.picking.push_users.Given as goal

abbrev pub invariant-loop-i : goal.invariant-loop-i
invariant-loop-i l =
    l.into.items ++ flat_map (user_pick l.spot) (enumerate_from l.i (drop l.i l.defs))
    ≡ l.initial.into.items ++ flat_map (user_pick l.spot) (enumerate_from 0 l.defs)
