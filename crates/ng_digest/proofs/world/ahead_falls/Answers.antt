use Rattle.std.proofs.Common.{ap, length, filter}
use Rattle.ng_digest.specs.Machine.{above}
use Rattle.ng_digest.proofs.Keys.{falls, none_where}
use Rattle.ng_digest.proofs.world.ahead_falls.Goals as goal

pub returns : goal.returns
returns g c =
    let m = g.W.World.moves.machine in
    let laws = g.met.W.World.laws in
    record {
      lowers = falls m laws.total;
      none = none_where m laws.total;
      stays = λ s c k n. ap (λ ks. length (filter (above m c) ks)) (laws.same_keys s k n);
    }
