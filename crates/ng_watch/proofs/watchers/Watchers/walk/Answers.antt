use Rattle.ng_watch.proofs.watchers.Watchers.walk.Goals as goal

pub walk-requires : goal.walk-requires
walk-requires c = rw c.self.view_is c.requires

pub returns : goal.returns
returns c = rw (← c.self.view_is) c.walk.ensures
