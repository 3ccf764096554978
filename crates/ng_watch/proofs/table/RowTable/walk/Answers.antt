use Rattle.std.proofs.Common.{subst, sym}
use Rattle.std.specs.List.Sorted.{IsStrictlySortedBy}
use Rattle.std.specs.Map.{keys_of}
use Rattle.std.specs.Prelude.{length}
use Rattle.ng_watch.specs.Chunks.{Rows}
use Rattle.ng_behaviour.specs.Keys.{key_cmp}
use Rattle.ng_watch.specs.Table.{watchers_of, AllStand}
use Rattle.ng_watch.proofs.table.RowTable.walk.Goals as goal

pub place_from-start-requires : goal.place_from-start-requires
place_from-start-requires c = subst (λ (t : Rows). IsStrictlySortedBy key_cmp (keys_of t)) (sym c.chunks-rows.ensures.rows) c.chunks-rows.ensures.ordered

pub walk_on-requires-clause-sorted : goal.walk_on-requires-clause-sorted
walk_on-requires-clause-sorted c = subst (λ (t : Rows). IsStrictlySortedBy key_cmp (keys_of t)) (sym c.chunks-rows.ensures.rows) c.chunks-rows.ensures.ordered

pub walk_on-requires-clause-stands : goal.walk_on-requires-clause-stands
walk_on-requires-clause-stands c = subst (λ (t : Rows). AllStand (length c.args.store.now) (watchers_of t)) (sym c.chunks-rows.ensures.rows) c.requires

pub returns : goal.returns
returns c = rw (← c.chunks-rows.ensures.rows) c.in_ok-stop.ensures
