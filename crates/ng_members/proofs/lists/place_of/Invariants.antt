use Rattle.std.proofs.Common.{◌≡◌, drop}
use Rattle.ng_base.specs.ViewOf.{view_of}
use Rattle.ng_members.specs.Methods.{items_of, place_of}
use Rattle.ng_members.proofs.lists.place_of.Given as goal

abbrev pub invariant-loop-i : goal.invariant-loop-i
invariant-loop-i l = place_of (view_of l.x) l.i (drop l.i (items_of l.store (view_of l.v))) ≡ place_of (view_of l.x) 0 (items_of l.store (view_of l.v))
