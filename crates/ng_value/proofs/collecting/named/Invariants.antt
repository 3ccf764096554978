use Rattle.std.proofs.Common.{◌≡◌, ◌++◌, drop}
use Rattle.ng_base.specs.Objects.{object_at}
use Rattle.ng_base.specs.Views.{fields_list}
use Rattle.ng_base.specs.ViewOf.{fields_of}
use Rattle.ng_language.specs.Unfolding.{own_entries, entries_of}
use Rattle.ng_value.proofs.collecting.named.Given as goal

abbrev pub invariant-loop-name : goal.invariant-loop-name
invariant-loop-name g l =
    let x = object_at (g.H.Heap.objects l.h) l.o.0 in
    fields_list (fields_of l.done) ++ entries_of x (drop l.name-index l.name-items) ≡ own_entries x
