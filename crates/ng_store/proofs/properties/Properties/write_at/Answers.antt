use Rattle.ng_store.specs.NamesOf.{names_in}
use Rattle.ng_store.proofs.NamePlaces.{value_written}
use Rattle.ng_store.proofs.properties.Properties.write_at.Goals as goal

pub returns-in-Some : goal.returns-in-Some
returns-in-Some c = value_written (names_in c.args.self.now.names) c.args.self.now.values.items c.args.place c.args.v
