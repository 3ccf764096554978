use Rattle.ng_digest.proofs.Passing.{next_is_way}
use Rattle.ng_digest.proofs.world.World.advance.Goals as goal

pub returns-clause-way : goal.returns-clause-way
returns-clause-way g c =
    let m = g.Self.World.moves in
    next_is_way m.machine (m.at c.args.self.now) (m.at c.next_after.new.self) c.next_after.result c.next_after.ensures.answer c.next_after.ensures.step c.next_after.ensures.sorted
