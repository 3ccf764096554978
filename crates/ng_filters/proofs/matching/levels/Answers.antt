use Rattle.std.proofs.Common.{refl}
use Rattle.ng_filters.specs.Matching.{level_limit}
use Rattle.ng_filters.proofs.matching.levels.Goals as goal

pub returns : goal.returns
unfolding level_limit
returns c = refl
