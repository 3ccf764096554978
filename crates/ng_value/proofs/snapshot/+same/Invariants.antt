use Rattle.std.proofs.Common.{◌≡◌, ◌≤◌, map, length}
use Rattle.ng_base.specs.Views.{views_from, fields_from}
use Rattle.ng_base.specs.ViewOf.{view_of, field_of}
use Rattle.ng_language.specs.Snapshots.{same_views, same_fields}
use Rattle.ng_language.specs.Views.{view_size, views_size, fields_size}
use Rattle.ng_value.proofs.snapshot.+same.Given as goal

abbrev pub decreases-same_view : goal.decreases-same_view
decreases-same_view l = view_size (view_of l.a.now)

abbrev pub decreases-same_views : goal.decreases-same_views
decreases-same_views l = views_size (views_from (map view_of l.a.now))

abbrev pub decreases-same_fields : goal.decreases-same_fields
decreases-same_fields l = fields_size (fields_from (map field_of l.a.now))

abbrev pub invariant-same_views-loop-v : goal.invariant-same_views-loop-v
invariant-same_views-loop-v l = record {
  size : views_size (views_from (map view_of l.left)) ≤ views_size (views_from (map view_of l.a));
  same : same_views (views_from (map view_of l.left)) (views_from (map view_of l.right)) ≡ same_views (views_from (map view_of l.a)) (views_from (map view_of l.b));
}

abbrev pub decreases-same_views-loop-v : goal.decreases-same_views-loop-v
decreases-same_views-loop-v l = length l.left

abbrev pub invariant-same_fields-loop-f : goal.invariant-same_fields-loop-f
invariant-same_fields-loop-f l = record {
  size : fields_size (fields_from (map field_of l.left)) ≤ fields_size (fields_from (map field_of l.a));
  same : same_fields (fields_from (map field_of l.left)) (fields_from (map field_of l.right)) ≡ same_fields (fields_from (map field_of l.a)) (fields_from (map field_of l.b));
}

abbrev pub decreases-same_fields-loop-f : goal.decreases-same_fields-loop-f
decreases-same_fields-loop-f l = length l.left
