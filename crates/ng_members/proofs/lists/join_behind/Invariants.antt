use Rattle.std.proofs.Common.{◌≡◌, drop}
use Rattle.ng_base.specs.ViewOf.{view_of}
use Rattle.ng_members.specs.Methods.{items_of, joined_behind}
use Rattle.ng_members.proofs.lists.join_behind.Given as goal

abbrev pub invariant-loop-i : goal.invariant-loop-i
invariant-loop-i l =
    joined_behind l.store l.between l.done (drop l.i (items_of l.store (view_of l.v)))
    ≡ joined_behind l.store l.between l.initial.done (drop 1 (items_of l.store (view_of l.v)))
