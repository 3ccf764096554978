use Rattle.std.proofs.Common.{◌≡◌, ◌<◌, ◌≤◌, ◌+◌, ◌-◌, ◌*◌, [], length, map, drop, max, option_map}
use Rattle.std.specs.Prelude.{IfSome}
use Rattle.std.specs.List.{AllByRecursion}
use Rattle.ng_base.specs.Views.{views_list}
use Rattle.ng_base.specs.ViewOf.{view_of, views_of, field_of}
use Rattle.ng_language.specs.Heights.{height, heights, pair_height, pair_heights}
use Rattle.ng_language.specs.Trees.{trees_from, pairs_from}
use Rattle.ng_language.specs.Views.{ViewStands}
use Rattle.ng_parse.specs.TreeOf.{tree, pair_tree}
use Rattle.ng_members.specs.Leaves.{FieldsAllStand}
use Rattle.ng_events.specs.Stands.{open_of, IsOpen}
use Rattle.ng_act.specs.Expressions.{acted_all, acted_pairs, statements, programmed}
use Rattle.ng_act.specs.Emitting.{rises, sweeps}
use Rattle.ng_act.specs.Actions.{does}
use Rattle.ng_core.specs.EventOf.{event_of}
use Rattle.ng_core.specs.Frames.{state_of, IsSound}
use Rattle.ng_act.specs.Kept.{Kept}
use Rattle.ng_act.specs.Turns.{closed, walk_turns, ahead_of}
use Rattle.ng_act.proofs.+act.Given as goal

abbrev pub decreases-acting::acted : goal.decreases-acting::acted
decreases-acting::acted l = (64 - l.core.now.depth) * 2000 + 10 * height (tree l.e.now) + 25

abbrev pub decreases-acting::acted_member : goal.decreases-acting::acted_member
decreases-acting::acted_member l = (64 - l.core.now.depth) * 2000 + 10 * height (tree l.t.now) + 26

abbrev pub decreases-acting::acted_item : goal.decreases-acting::acted_item
decreases-acting::acted_item l = (64 - l.core.now.depth) * 2000 + 10 * max (height (tree l.t.now)) (height (tree l.i.now)) + 26

abbrev pub decreases-acting::acted_call : goal.decreases-acting::acted_call
decreases-acting::acted_call l = (64 - l.core.now.depth) * 2000 + 10 * max (height (tree l.t.now)) (heights (trees_from (map tree l.args.now))) + 28

abbrev pub decreases-acting::acted_list : goal.decreases-acting::acted_list
decreases-acting::acted_list l = (64 - l.core.now.depth) * 2000 + 10 * heights (trees_from (map tree l.items.now)) + 27

abbrev pub decreases-acting::acted_record : goal.decreases-acting::acted_record
decreases-acting::acted_record l = (64 - l.core.now.depth) * 2000 + 10 * pair_heights (pairs_from (map pair_tree l.pairs.now)) + 28

abbrev pub decreases-acting::acted_unary : goal.decreases-acting::acted_unary
decreases-acting::acted_unary l = (64 - l.core.now.depth) * 2000 + 10 * height (tree l.t.now) + 26

abbrev pub decreases-acting::acted_binary : goal.decreases-acting::acted_binary
decreases-acting::acted_binary l = (64 - l.core.now.depth) * 2000 + 10 * max (height (tree l.a.now)) (height (tree l.b.now)) + 26

abbrev pub decreases-acting::acted_both : goal.decreases-acting::acted_both
decreases-acting::acted_both l = (64 - l.core.now.depth) * 2000 + 10 * max (height (tree l.a.now)) (height (tree l.b.now)) + 26

abbrev pub decreases-acting::acted_either : goal.decreases-acting::acted_either
decreases-acting::acted_either l = (64 - l.core.now.depth) * 2000 + 10 * max (height (tree l.a.now)) (height (tree l.b.now)) + 26

abbrev pub decreases-acting::acted_choice : goal.decreases-acting::acted_choice
decreases-acting::acted_choice l = (64 - l.core.now.depth) * 2000 + 10 * max (height (tree l.c.now)) (max (height (tree l.a.now)) (height (tree l.b.now))) + 26

abbrev pub decreases-acting::acted_assign : goal.decreases-acting::acted_assign
decreases-acting::acted_assign l = (64 - l.core.now.depth) * 2000 + 10 * max (height (tree l.a.now)) (height (tree l.b.now)) + 27

abbrev pub decreases-acting::acted_filter : goal.decreases-acting::acted_filter
decreases-acting::acted_filter l = (64 - l.core.now.depth) * 2000 + 10 * max (height (tree l.t.now)) (heights (trees_from (map tree l.args.now))) + 27

abbrev pub decreases-reaching::reached : goal.decreases-reaching::reached
decreases-reaching::reached l = (64 - l.core.now.depth) * 2000 + 10 * height (tree l.e.now) + 27

abbrev pub decreases-reaching::left : goal.decreases-reaching::left
decreases-reaching::left l = (64 - l.core.now.depth) * 2000 + 10 * height (tree l.e.now) + 26

abbrev pub decreases-reaching::made : goal.decreases-reaching::made
decreases-reaching::made l = (64 - l.core.now.depth) * 2000 + 10 * height (tree l.e.now) + 26

abbrev pub decreases-series::acted_all : goal.decreases-series::acted_all
decreases-series::acted_all l = (64 - l.core.now.depth) * 2000 + 10 * heights (trees_from (map tree l.items.now)) + 26

abbrev pub decreases-series::acted_pair : goal.decreases-series::acted_pair
decreases-series::acted_pair l = (64 - l.core.now.depth) * 2000 + 10 * pair_height (pair_tree l.pair.now) + 26

abbrev pub decreases-series::acted_pairs : goal.decreases-series::acted_pairs
decreases-series::acted_pairs l = (64 - l.core.now.depth) * 2000 + 10 * pair_heights (pairs_from (map pair_tree l.pairs.now)) + 27

abbrev pub decreases-series::programmed : goal.decreases-series::programmed
decreases-series::programmed l = (64 - l.core.now.depth) * 2000 + 10 * heights (trees_from (map tree l.items.now)) + 26

abbrev pub decreases-calling::call : goal.decreases-calling::call
decreases-calling::call l = (64 - l.core.now.depth) * 2000 + 19

abbrev pub decreases-calling::call_function : goal.decreases-calling::call_function
decreases-calling::call_function l = (64 - l.core.now.depth) * 2000 + 18

abbrev pub decreases-calling::call_scope : goal.decreases-calling::call_scope
decreases-calling::call_scope l = (64 - l.core.now.depth) * 2000 + 18

abbrev pub decreases-calling::run_method : goal.decreases-calling::run_method
decreases-calling::run_method l = (64 - l.core.now.depth) * 2000 + 17

abbrev pub decreases-calling::run_body : goal.decreases-calling::run_body
decreases-calling::run_body l = (64 - l.core.now.depth) * 2000 + 13

abbrev pub decreases-emitting::destroy : goal.decreases-emitting::destroy
decreases-emitting::destroy l = (64 - l.core.now.depth) * 2000 + 15

abbrev pub decreases-emitting::announce_death : goal.decreases-emitting::announce_death
decreases-emitting::announce_death l = (64 - l.core.now.depth) * 2000 + 14

abbrev pub decreases-emitting::emit_views : goal.decreases-emitting::emit_views
decreases-emitting::emit_views l = (64 - l.core.now.depth) * 2000 + 13

abbrev pub decreases-emitting::broadcast_views : goal.decreases-emitting::broadcast_views
decreases-emitting::broadcast_views l = (64 - l.core.now.depth) * 2000 + 13

abbrev pub decreases-emitting::emit_open : goal.decreases-emitting::emit_open
decreases-emitting::emit_open l = (64 - l.core.now.depth) * 2000 + 60

abbrev pub decreases-emitting::broadcast_open : goal.decreases-emitting::broadcast_open
decreases-emitting::broadcast_open l = (64 - l.core.now.depth) * 2000 + 60

abbrev pub decreases-emitting::rise : goal.decreases-emitting::rise
decreases-emitting::rise l = (64 - l.core.now.depth) * 2000 + 50

abbrev pub decreases-emitting::sweep : goal.decreases-emitting::sweep
decreases-emitting::sweep l = (64 - l.core.now.depth) * 2000 + 50

abbrev pub decreases-visiting::visit : goal.decreases-visiting::visit
decreases-visiting::visit l = (64 - l.core.now.depth) * 2000 + 45

abbrev pub decreases-visiting::hear : goal.decreases-visiting::hear
decreases-visiting::hear l = (64 - l.core.now.depth) * 2000 + 40

abbrev pub decreases-visiting::take_turns : goal.decreases-visiting::take_turns
decreases-visiting::take_turns l = (64 - l.core.now.depth) * 2000 + 30

abbrev pub decreases-visiting::take_turn : goal.decreases-visiting::take_turn
decreases-visiting::take_turn l = (64 - l.core.now.depth) * 2000 + 20

abbrev pub invariant-series::acted_all-loop-item : goal.invariant-series::acted_all-loop-item
invariant-series::acted_all-loop-item l = record {
  low : heights (trees_from (map tree (drop l.item-index l.items))) ≤ heights (trees_from (map tree l.items));
  kept : Kept l.initial.core l.core;
  stands : AllByRecursion (ViewStands (length l.core.store)) (views_list (views_of l.views));
  same : acted_all (does (64 - l.initial.core.depth)) l.scope.0 (views_list (views_of l.views)) (trees_from (map tree (drop l.item-index l.items))) (state_of l.core)
      ≡ acted_all (does (64 - l.initial.core.depth)) l.scope.0 [] (trees_from (map tree l.items)) (state_of l.initial.core);
}

abbrev pub invariant-series::programmed-loop-item : goal.invariant-series::programmed-loop-item
invariant-series::programmed-loop-item l = record {
  low : heights (trees_from (map tree (drop l.item-index l.items))) ≤ heights (trees_from (map tree l.items));
  kept : Kept l.initial.core l.core;
  stands : ViewStands (length l.core.store) (view_of l.value);
  same : statements (does (64 - l.initial.core.depth)) l.scope.0 (view_of l.value) (trees_from (map tree (drop l.item-index l.items))) (state_of l.core)
      ≡ programmed (does (64 - l.initial.core.depth)) l.scope.0 (trees_from (map tree l.items)) (state_of l.initial.core);
}

abbrev pub invariant-series::acted_pairs-loop-pair : goal.invariant-series::acted_pairs-loop-pair
invariant-series::acted_pairs-loop-pair l = record {
  low : pair_heights (pairs_from (map pair_tree (drop l.pair-index l.pairs))) ≤ pair_heights (pairs_from (map pair_tree l.pairs));
  kept : Kept l.initial.core l.core;
  stands : FieldsAllStand (length l.core.store) (map field_of l.fields.entries);
  same : acted_pairs (does (64 - l.initial.core.depth)) l.scope.0 (map field_of l.fields.entries) (pairs_from (map pair_tree (drop l.pair-index l.pairs))) (state_of l.core)
      ≡ acted_pairs (does (64 - l.initial.core.depth)) l.scope.0 [] (pairs_from (map pair_tree l.pairs)) (state_of l.initial.core);
}

abbrev pub invariant-emitting::rise-loop-i : goal.invariant-emitting::rise-loop-i
invariant-emitting::rise-loop-i l = record {
  kept : Kept l.initial.core l.core;
  inside : open_of l.core.listeners < l.core.depth;
  within : IfSome l.next (λ s. s.0 < length l.core.scopes);
  object : l.e.object.0 < length l.core.store;
  args : ViewStands (length l.core.store) (view_of l.e.args);
  same : rises (l._i-end - l._i) (does (64 - l.initial.core.depth)) (event_of l.e) (option_map (λ s. s.0) l.next) (state_of l.core) ≡ rises l._i-end (does (64 - l.initial.core.depth)) (event_of l.e) (option_map (λ s. s.0) l.initial.next) (state_of l.initial.core);
}

abbrev pub invariant-emitting::sweep-loop-i : goal.invariant-emitting::sweep-loop-i
invariant-emitting::sweep-loop-i l = record {
  kept : Kept l.initial.core l.core;
  inside : open_of l.core.listeners < l.core.depth;
  within : l.last.0 < length l.core.scopes;
  top : l.scope.0 < length l.core.scopes;
  object : l.e.object.0 < length l.core.store;
  args : ViewStands (length l.core.store) (view_of l.e.args);
  same : sweeps (l.count - l._i) (does (64 - l.initial.core.depth)) (event_of l.e) l.scope.0 l.last.0 (state_of l.core) ≡ sweeps l.count (does (64 - l.initial.core.depth)) (event_of l.e) l.scope.0 l.initial.last.0 (state_of l.initial.core);
}

abbrev pub invariant-visiting::take_turns-loop-id : goal.invariant-visiting::take_turns-loop-id
invariant-visiting::take_turns-loop-id l = record {
  sound : IsSound l.core;
  depth : l.core.depth ≡ l.initial.core.depth;
  count : length l.core.scopes ≡ length l.initial.core.scopes;
  grown : length l.initial.core.store ≤ length l.core.store;
  object : l.e.object.0 < length l.core.store;
  args : ViewStands (length l.core.store) (view_of l.e.args);
  walk : l.walk ≡ l.initial.walk;
  bare : l.core.listeners.bare ≡ l.initial.core.listeners.bare;
  open_same : open_of l.core.listeners ≡ open_of l.initial.core.listeners;
  closed : closed l.core.listeners l.walk ≡ closed l.initial.core.listeners l.initial.walk;
  still : IsOpen l.core.listeners l.walk;
  same : walk_turns (does (64 - l.initial.core.depth)) (event_of l.e) l.scope.0 l.core.listeners l.walk (state_of l.core) ≡ walk_turns (does (64 - l.initial.core.depth)) (event_of l.e) l.scope.0 l.initial.core.listeners l.initial.walk (state_of l.initial.core);
}

abbrev pub decreases-visiting::take_turns-loop-id : goal.decreases-visiting::take_turns-loop-id
decreases-visiting::take_turns-loop-id l = ahead_of l.core.listeners l.walk
