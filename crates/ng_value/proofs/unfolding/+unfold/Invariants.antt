use Rattle.std.proofs.Common.{◌≡◌, ◌+◌, ◌*◌, [], map, drop}
use Rattle.ng_base.specs.Objects.{object_at}
use Rattle.ng_base.specs.Views.{views_list}
use Rattle.ng_base.specs.ViewOf.{views_of, field_of}
use Rattle.ng_language.specs.Unfolding.{unfold_within, unfold_items, unfold_fields, prims, own_entries, entries_of, name_mode}
use Rattle.ng_value.proofs.unfolding.+unfold.Given as goal

abbrev pub decreases-unfold_value : goal.decreases-unfold_value
decreases-unfold_value g l = 4 * l.levels + 2

abbrev pub decreases-unfold_object : goal.decreases-unfold_object
decreases-unfold_object g l = 4 * l.levels + 5

abbrev pub decreases-unfold_stored : goal.decreases-unfold_stored
decreases-unfold_stored g l = 4 * l.levels + 4

abbrev pub decreases-unfold_properties : goal.decreases-unfold_properties
decreases-unfold_properties g l = 4 * l.levels + 4

abbrev pub invariant-unfold_stored-loop-i : goal.invariant-unfold_stored-loop-i
invariant-unfold_stored-loop-i g l =
    let go = unfold_within l.levels (g.H.Heap.objects l.h) l.mode in
    let items = (object_at (g.H.Heap.objects l.h) l.o.0).items in
    unfold_items go (prims (drop l.i items)) (views_list (views_of l.done)) l.left ≡ unfold_items go (prims items) [] l.initial.left

abbrev pub invariant-unfold_properties-loop-name : goal.invariant-unfold_properties-loop-name
invariant-unfold_properties-loop-name g l =
    let go = unfold_within l.levels (g.H.Heap.objects l.h) (name_mode l.mode) in
    let x = object_at (g.H.Heap.objects l.h) l.o.0 in
    unfold_fields l.mode go (entries_of x (drop l.name-index l.name-items)) (map field_of l.done.items) l.left ≡ unfold_fields l.mode go (own_entries x) [] l.initial.left
