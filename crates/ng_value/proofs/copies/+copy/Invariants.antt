use Rattle.std.proofs.Common.{◌≡◌, ◌≤◌, ◌++◌, map, length}
use Rattle.ng_base.specs.Views.{views_from, fields_from, views_list, fields_list}
use Rattle.ng_base.specs.ViewOf.{view_of, views_of, fields_of, field_of}
use Rattle.ng_language.specs.Views.{view_size, views_size, fields_size}
use Rattle.ng_value.proofs.copies.+copy.Given as goal

abbrev pub decreases-copied : goal.decreases-copied
decreases-copied l = view_size (view_of l.v.now)

abbrev pub decreases-copied_views : goal.decreases-copied_views
decreases-copied_views l = views_size (views_from (map view_of l.views.now))

abbrev pub decreases-copied_fields : goal.decreases-copied_fields
decreases-copied_fields l = fields_size (fields_from (map field_of l.fields.now))

abbrev pub invariant-copied_views-loop-v : goal.invariant-copied_views-loop-v
invariant-copied_views-loop-v l = record {
  size : views_size (views_from (map view_of l.left)) ≤ views_size (views_from (map view_of l.views));
  same : views_list (views_of l.done) ++ map view_of l.left ≡ map view_of l.views;
}

abbrev pub decreases-copied_views-loop-v : goal.decreases-copied_views-loop-v
decreases-copied_views-loop-v l = length l.left

abbrev pub invariant-copied_fields-loop-f : goal.invariant-copied_fields-loop-f
invariant-copied_fields-loop-f l = record {
  size : fields_size (fields_from (map field_of l.left)) ≤ fields_size (fields_from (map field_of l.fields));
  same : fields_list (fields_of l.done) ++ map field_of l.left ≡ map field_of l.fields;
}

abbrev pub decreases-copied_fields-loop-f : goal.decreases-copied_fields-loop-f
decreases-copied_fields-loop-f l = length l.left
