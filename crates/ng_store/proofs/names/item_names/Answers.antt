use Rattle.std.proofs.Common.{sym, decimal, zero-add}
use Rattle.std.proofs.lemmas.List.FromFn.{map-range_with_len_more}
use Rattle.ng_store.proofs.names.item_names.Goals as goal

pub loop-i-preserved : goal.loop-i-preserved
loop-i-preserved c =
    rw (c.in_ok-push.ensures.ok, c.in_ok-index_name.ensures.name, c.loop-i.invariant)
    (sym (map-range_with_len_more decimal 0 c.loop-i.i c.loop-i.i (zero-add c.loop-i.i)))
