use Rattle.ng_events.proofs.listeners.Listeners.body.Goals as goal

pub find_listener-requires-clause-there : goal.find_listener-requires-clause-there
find_listener-requires-clause-there c = rw c.as_slice.ensures.value c.self.invariant.there
