use Rattle.ng_behaviour.proofs.Paths.{begins-itself, begins-after}
use Rattle.ng_scopes.proofs.rows.first_live.Goals as goal

pub first_from-requires : goal.first_from-requires
first_from-requires c = begins-after c.index-rows-s.result.path c.index-rows-s.result.path (begins-itself c.index-rows-s.result.path)
