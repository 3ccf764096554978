use Rattle.std.proofs.Common.{length}
use Rattle.ng_rows.proofs.KeptItems.{item_stands}
use Rattle.ng_rows.proofs.tracking.track_keys.Goals as goal

pub track_key-requires-clause-item : goal.track_key-requires-clause-item
track_key-requires-clause-item c = item_stands (length c.args.store.now) c.args.items.now c.loop-i.i c.index-items-i.result c.requires.items c.loop-i-test.true c.index-items-i.is
