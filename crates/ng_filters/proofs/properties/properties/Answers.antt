use Rattle.ng_filters.specs.Seen.{seen}
use Rattle.ng_filters.proofs.Stands.{properties_stand}
use Rattle.ng_filters.proofs.properties.properties.Goals as goal

pub returns-clause-stands : goal.returns-clause-stands
returns-clause-stands c = rw c.in_ok-own.ensures.properties (properties_stand c.args.store.now (seen c.args.v) c.sound.ensures c.requires)
