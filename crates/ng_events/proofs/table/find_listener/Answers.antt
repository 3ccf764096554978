use Rattle.std.proofs.Common.{refl, sym}
use Rattle.ng_events.proofs.Homes.{called-absent, called-there}
use Rattle.ng_events.proofs.table.find_listener.Goals as goal

pub listener_in-requires-clause-within : goal.listener_in-requires-clause-within
listener_in-requires-clause-within c = let t = c.requires.there c.args.id c.in-Some.home.now (sym c.in-Some.ensures.value) in t.within

pub listener_in-requires-clause-stands : goal.listener_in-requires-clause-stands
listener_in-requires-clause-stands c = let t = c.requires.there c.args.id c.in-Some.home.now (sym c.in-Some.ensures.value) in rw t.stands refl

pub returns-in-None : goal.returns-in-None
returns-in-None c = sym (called-absent c.args.stands.now c.args.homes.now c.args.id (sym c.in-None.ensures.value) c.requires.known)

pub returns-in-Some : goal.returns-in-Some
returns-in-Some c = sym (called-there c.args.stands.now c.args.homes.now c.args.id c.in-Some.home.now c.listener_in.result.now (sym c.in-Some.ensures.value) c.requires.there c.requires.known c.listener_in.ensures)
