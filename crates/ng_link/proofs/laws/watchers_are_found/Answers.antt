use Rattle.ng_link.proofs.Watched.{watchers_found}
use Rattle.ng_link.proofs.laws.watchers_are_found.Goals as goal

pub returns : goal.returns
returns c = watchers_found
