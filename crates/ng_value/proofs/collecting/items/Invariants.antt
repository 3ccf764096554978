use Rattle.std.proofs.Common.{◌≡◌, ◌++◌, drop}
use Rattle.ng_base.specs.Objects.{object_at}
use Rattle.ng_base.specs.Views.{views_list}
use Rattle.ng_base.specs.ViewOf.{views_of}
use Rattle.ng_language.specs.Unfolding.{prims}
use Rattle.ng_value.proofs.collecting.items.Given as goal

abbrev pub invariant-loop-i : goal.invariant-loop-i
invariant-loop-i g l =
    let items = (object_at (g.H.Heap.objects l.h) l.o.0).items in
    views_list (views_of l.done) ++ prims (drop l.i items) ≡ prims items
