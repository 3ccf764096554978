use Rattle.std.proofs.Common.{◌≡◌, ◌≤◌, ◌++◌, map, length}
use Rattle.ng_base.specs.Views.{views_from, fields_from}
use Rattle.ng_base.specs.ViewOf.{view_of, field_of}
use Rattle.ng_language.specs.Texts.{json_more_items, json_more_fields}
use Rattle.ng_language.specs.Views.{view_size, views_size, fields_size}
use Rattle.ng_value.proofs.json.+json.Given as goal

abbrev pub decreases-push_json : goal.decreases-push_json
decreases-push_json l = view_size (view_of l.v.now)

abbrev pub decreases-push_items : goal.decreases-push_items
decreases-push_items l = views_size (views_from (map view_of l.views.now))

abbrev pub decreases-push_more_items : goal.decreases-push_more_items
decreases-push_more_items l = views_size (views_from (map view_of l.views.now))

abbrev pub decreases-push_fields : goal.decreases-push_fields
decreases-push_fields l = fields_size (fields_from (map field_of l.fields.now))

abbrev pub decreases-push_more_fields : goal.decreases-push_more_fields
decreases-push_more_fields l = fields_size (fields_from (map field_of l.fields.now))

abbrev pub invariant-push_more_items-loop-v : goal.invariant-push_more_items-loop-v
invariant-push_more_items-loop-v l = record {
  size : views_size (views_from (map view_of l.left)) ≤ views_size (views_from (map view_of l.views));
  same : l.out ++ json_more_items l.indent l.margin (views_from (map view_of l.left)) ≡ l.initial.out ++ json_more_items l.indent l.margin (views_from (map view_of l.views));
}

abbrev pub decreases-push_more_items-loop-v : goal.decreases-push_more_items-loop-v
decreases-push_more_items-loop-v l = length l.left

abbrev pub invariant-push_more_fields-loop-f : goal.invariant-push_more_fields-loop-f
invariant-push_more_fields-loop-f l = record {
  size : fields_size (fields_from (map field_of l.left)) ≤ fields_size (fields_from (map field_of l.fields));
  same : l.out ++ json_more_fields l.indent l.margin (fields_from (map field_of l.left)) ≡ l.initial.out ++ json_more_fields l.indent l.margin (fields_from (map field_of l.fields));
}

abbrev pub decreases-push_more_fields-loop-f : goal.decreases-push_more_fields-loop-f
decreases-push_more_fields-loop-f l = length l.left
