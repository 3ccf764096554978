use Rattle.ng_dom.proofs.Homes.{live_nodes_have_homes, live_names_are_given, fewer_are_live, homes_stay, bodies_are_homed}
use Rattle.ng_dom.proofs.laws.homes_stay.Goals as goal

pub returns-clause-homes : goal.returns-clause-homes
returns-clause-homes c = live_nodes_have_homes

pub returns-clause-given : goal.returns-clause-given
returns-clause-given c = live_names_are_given

pub returns-clause-live : goal.returns-clause-live
returns-clause-live c = fewer_are_live

pub returns-clause-stay : goal.returns-clause-stay
returns-clause-stay c = homes_stay

pub returns-clause-bodies : goal.returns-clause-bodies
returns-clause-bodies c = bodies_are_homed
