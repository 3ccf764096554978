use Rattle.ng_digest.proofs.One.{digest_one}
use Rattle.ng_digest.proofs.rounds.plain_digest_is_one.Goals as goal

pub returns : goal.returns
returns g c = λ s r u p q a b. digest_one g.W.World.moves.machine a b
