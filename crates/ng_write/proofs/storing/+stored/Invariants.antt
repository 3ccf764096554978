use Rattle.std.proofs.Common.{◌≡◌, ◌≤◌, [], map, length}
use Rattle.std.specs.List.{AllByRecursion}
use Rattle.ng_base.specs.Objects.{StandsAmong}
use Rattle.ng_base.specs.Views.{views_from, fields_from}
use Rattle.ng_base.specs.ViewOf.{view_of, field_of}
use Rattle.ng_language.specs.Views.{ViewsStand, FieldsStand, view_size, views_size, fields_size}
use Rattle.ng_write.specs.Storing.{stored_views, stored_fields, PropertiesStand}
use Rattle.ng_write.proofs.storing.+stored.Given as goal

abbrev pub decreases-stored : goal.decreases-stored
decreases-stored l = view_size (view_of l.view.now)

abbrev pub decreases-stored_views : goal.decreases-stored_views
decreases-stored_views l = views_size (views_from (map view_of l.views.now))

abbrev pub decreases-stored_fields : goal.decreases-stored_fields
decreases-stored_fields l = fields_size (fields_from (map field_of l.fields.now))

abbrev pub invariant-stored_views-loop-view : goal.invariant-stored_views-loop-view
invariant-stored_views-loop-view l = record {
  size : views_size (views_from (map view_of l.left)) ≤ views_size (views_from (map view_of l.views));
  same : stored_views l.store l.done (views_from (map view_of l.left)) ≡ stored_views l.initial.store [] (views_from (map view_of l.views));
  grown : length l.initial.store ≤ length l.store;
  stands : ViewsStand (length l.store) (views_from (map view_of l.left));
  done : AllByRecursion (StandsAmong (length l.store)) l.done;
}

abbrev pub decreases-stored_views-loop-view : goal.decreases-stored_views-loop-view
decreases-stored_views-loop-view l = length l.left

abbrev pub invariant-stored_fields-loop-field : goal.invariant-stored_fields-loop-field
invariant-stored_fields-loop-field l = record {
  size : fields_size (fields_from (map field_of l.left)) ≤ fields_size (fields_from (map field_of l.fields));
  same : stored_fields l.store l.done.items (fields_from (map field_of l.left)) ≡ stored_fields l.initial.store [] (fields_from (map field_of l.fields));
  grown : length l.initial.store ≤ length l.store;
  stands : FieldsStand (length l.store) (fields_from (map field_of l.left));
  done : PropertiesStand (length l.store) l.done.items;
}

abbrev pub decreases-stored_fields-loop-field : goal.decreases-stored_fields-loop-field
decreases-stored_fields-loop-field l = length l.left
