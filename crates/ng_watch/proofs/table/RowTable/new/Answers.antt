use Rattle.std.proofs.Common.{ap}
use Rattle.ng_watch.specs.Chunks.{joined}
use Rattle.ng_watch.proofs.AtPlaces.{counted_none}
use Rattle.ng_watch.proofs.table.RowTable.new.Goals as goal

pub invariant_of-result : goal.invariant_of-result
invariant_of-result c = counted_none (joined c.new.result.items) (ap joined c.new.ensures.items)
