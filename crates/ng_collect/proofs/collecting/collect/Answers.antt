use Rattle.ng_collect.proofs.collecting.collect.Goals as goal

pub returns : goal.returns
returns c = rw c.definitions.ensures at c.picked_at.ensures
