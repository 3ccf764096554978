use Rattle.ng_collect.proofs.collecting.collect_below.Goals as goal

pub returns : goal.returns
returns c = rw c.definitions.ensures at c.picked_at.ensures
