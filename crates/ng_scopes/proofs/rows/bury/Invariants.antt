use Rattle.std.proofs.Common.{◌≡◌, vec_len}
use Rattle.std.specs.BTreeMap.{btree_map_len}
use Rattle.ng_behaviour.specs.Scopes.{path_at, dead_under, IsLed}
use Rattle.ng_scopes.specs.Rows.{tree_of, IsIndex}
use Rattle.ng_scopes.proofs.rows.bury.Given as goal

abbrev pub invariant-loop-id : goal.invariant-loop-id
invariant-loop-id l = record {
  len : vec_len l.rows ≡ vec_len l.initial.rows;
  path : path_at (tree_of l.rows.items) l.s ≡ path_at (tree_of l.initial.rows.items) l.s;
  end : dead_under (path_at (tree_of l.initial.rows.items) l.s) (tree_of l.rows.items) ≡ dead_under (path_at (tree_of l.initial.rows.items) l.s) (tree_of l.initial.rows.items);
  led : IsLed (tree_of l.rows.items);
  index : IsIndex l.index (tree_of l.rows.items);
}

abbrev pub decreases-loop-id : goal.decreases-loop-id
decreases-loop-id l = btree_map_len l.index
