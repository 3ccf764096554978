use Rattle.std.proofs.Common.{◌≡◌, ◌+◌, ◌*◌, [], map, drop, length, true}
use Rattle.std.specs.List.{AllByRecursion}
use Rattle.ng_language.specs.Unfolding.{Field}
use Rattle.ng_language.specs.Views.{ViewStands}
use Rattle.ng_filters.specs.Parts.{items}
use Rattle.ng_filters.specs.Matching.{match_within, some_item, some_property, every_property}
use Rattle.ng_filters.specs.Seen.{seen, field_seen}
use Rattle.ng_filters.proofs.matching.+matching.Given as goal

abbrev pub decreases-matches : goal.decreases-matches
decreases-matches l = 8 * l.levels + 0

abbrev pub decreases-some_property : goal.decreases-some_property
decreases-some_property l = 8 * l.levels + 1

abbrev pub decreases-some_own : goal.decreases-some_own
decreases-some_own l = 8 * l.levels + 2

abbrev pub decreases-held_matches : goal.decreases-held_matches
decreases-held_matches l = 8 * l.levels + 3

abbrev pub decreases-every_property : goal.decreases-every_property
decreases-every_property l = 8 * l.levels + 4

abbrev pub decreases-named_matches : goal.decreases-named_matches
decreases-named_matches l = 8 * l.levels + 5

abbrev pub decreases-any_matches : goal.decreases-any_matches
decreases-any_matches l = 8 * l.levels + 5

abbrev pub decreases-object_matches : goal.decreases-object_matches
decreases-object_matches l = 8 * l.levels + 6

abbrev pub decreases-some_item : goal.decreases-some_item
decreases-some_item l = 8 * l.levels + 6

abbrev pub decreases-shape_matches : goal.decreases-shape_matches
decreases-shape_matches l = 8 * l.levels + 7

abbrev pub invariant-some_item-loop-i : goal.invariant-some_item-loop-i
invariant-some_item-loop-i l = some_item (λ t. match_within l.levels l.store t (seen l.p) l.any) (drop l.i (items l.store (seen l.v))) l.left ≡ some_item (λ t. match_within l.levels l.store t (seen l.p) l.any) (items l.store (seen l.v)) l.initial.left

abbrev pub invariant-some_property-loop-f : goal.invariant-some_property-loop-f
invariant-some_property-loop-f l = record {
  stands : AllByRecursion (λ (f : Field). ViewStands (length l.store) f.1) (map field_seen (drop l.f-index l.own));
  same : some_property (λ t. match_within l.levels l.store t (seen l.p) true) (map field_seen (drop l.f-index l.own)) l.left ≡ some_property (λ t. match_within l.levels l.store t (seen l.p) true) (map field_seen l.own) l.initial.left;
}

abbrev pub invariant-every_property-loop-f : goal.invariant-every_property-loop-f
invariant-every_property-loop-f l = record {
  stands : AllByRecursion (λ (f : Field). ViewStands (length l.store) f.1) (map field_seen (drop l.f-index l.wanted));
  same : every_property l.store (match_within l.levels l.store) (seen l.v) (map field_seen (drop l.f-index l.wanted)) l.left ≡ every_property l.store (match_within l.levels l.store) (seen l.v) (map field_seen l.wanted) l.initial.left;
}
