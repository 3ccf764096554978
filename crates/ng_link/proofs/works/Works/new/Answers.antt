use Rattle.std.proofs.Common.{ap}
use Rattle.ng_watch.specs.Table.{watchers_of}
use Rattle.ng_link.proofs.Bare.{nothing_stands}
use Rattle.ng_link.proofs.works.Works.new.Goals as goal

pub returns-clause-stands : goal.returns-clause-stands
returns-clause-stands c = nothing_stands _ c.new-6.ensures.empty c.new-8.ensures.empty (ap watchers_of c.new.ensures) c.new-2.ensures.rooms c.new-2.ensures.top
