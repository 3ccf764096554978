use Rattle.std.proofs.Common.{◌≡◌, ◌≤◌, Bool, length, drop, vec_len, vec_capacity}
use Rattle.std.specs.List.{filter}
use Rattle.std.specs.List.Sorted.{IsStrictlySortedBy}
use Rattle.std.specs.Map.{keys_of}
use Rattle.ng_base.specs.declared.path.Key.{Key}
use Rattle.ng_behaviour.specs.Keys.{key_cmp}
use Rattle.ng_watch.specs.declared.watched.Watched.{Watched}
use Rattle.ng_watch.proofs.Taking.{HasTaken}
use Rattle.ng_watch.proofs.watchers.taken_out.Given as goal

abbrev pub invariant-loop-key : goal.invariant-loop-key
invariant-loop-key l = record {
  room : vec_capacity l.rows ≡ length l.keys;
  filled : vec_len l.rows ≤ l.key-index;
  sorted : IsStrictlySortedBy key_cmp (keys_of l.table);
  steps : (passes : Key × Watched → Bool) → l.keys ≡ keys_of (filter passes l.initial.table) → HasTaken passes (drop l.key-index l.keys) l.rows.items l.initial.table l.table;
}
