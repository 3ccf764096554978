use Rattle.ng_chain.proofs.Law.{walk_law}
use Rattle.ng_chain.proofs.chain.walks_meet_what_stands.Goals as goal

pub returns : goal.returns
returns g c = walk_law _
