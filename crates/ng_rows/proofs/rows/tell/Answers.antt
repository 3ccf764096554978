use Rattle.ng_rows.proofs.Told.{set_count}
use Rattle.ng_rows.proofs.rows.tell.Goals as goal

pub returns-clause-count : goal.returns-clause-count
returns-clause-count c = set_count c.set.result c.args.store.now c.set.new.self c.args.object.0 c.args.name.now c.args.value c.set.ensures.set c.set.ensures.unchanged
