use Rattle.std.proofs.Common.{refl}
use Rattle.ng_filters.specs.Matching.{match_limit}
use Rattle.ng_filters.proofs.matching.match_limit.Goals as goal

pub returns : goal.returns
unfolding match_limit
returns c = refl
