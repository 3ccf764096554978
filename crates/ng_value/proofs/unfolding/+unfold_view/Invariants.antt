use Rattle.std.proofs.Common.{◌≡◌, ◌+◌, ◌*◌, [], map, drop, length}
use Rattle.std.specs.List.{AllByRecursion}
use Rattle.ng_base.specs.Views.{views_list}
use Rattle.ng_base.specs.ViewOf.{view_of, views_of, field_of}
use Rattle.ng_language.specs.Unfolding.{unfold_within, unfold_items, unfold_fields, name_mode, Field}
use Rattle.ng_language.specs.Views.{ViewStands}
use Rattle.ng_value.proofs.unfolding.+unfold_view.Given as goal

abbrev pub decreases-unfold_view : goal.decreases-unfold_view
decreases-unfold_view g l = 4 * l.levels + 3

abbrev pub decreases-unfold_list : goal.decreases-unfold_list
decreases-unfold_list g l = 4 * l.levels + 5

abbrev pub decreases-unfold_record : goal.decreases-unfold_record
decreases-unfold_record g l = 4 * l.levels + 5

abbrev pub decreases-unfold_views : goal.decreases-unfold_views
decreases-unfold_views g l = 4 * l.levels + 4

abbrev pub decreases-unfold_fields : goal.decreases-unfold_fields
decreases-unfold_fields g l = 4 * l.levels + 4

abbrev pub invariant-unfold_views-loop-v : goal.invariant-unfold_views-loop-v
invariant-unfold_views-loop-v g l = record {
  stands : AllByRecursion (ViewStands (length (g.H.Heap.objects l.h))) (map view_of (drop l.v-index l.views));
  same : unfold_items (unfold_within l.levels (g.H.Heap.objects l.h) l.mode) (map view_of (drop l.v-index l.views)) (views_list (views_of l.done)) l.left
      ≡ unfold_items (unfold_within l.levels (g.H.Heap.objects l.h) l.mode) (map view_of l.views) [] l.initial.left;
}

abbrev pub invariant-unfold_fields-loop-f : goal.invariant-unfold_fields-loop-f
invariant-unfold_fields-loop-f g l = record {
  stands : AllByRecursion (λ (f : Field). ViewStands (length (g.H.Heap.objects l.h)) f.1) (map field_of (drop l.f-index l.fields));
  same : unfold_fields l.mode (unfold_within l.levels (g.H.Heap.objects l.h) (name_mode l.mode)) (map field_of (drop l.f-index l.fields)) (map field_of l.done.items) l.left
      ≡ unfold_fields l.mode (unfold_within l.levels (g.H.Heap.objects l.h) (name_mode l.mode)) (map field_of l.fields) [] l.initial.left;
}
