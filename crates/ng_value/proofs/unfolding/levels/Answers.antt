use Rattle.std.proofs.Common.{refl}
use Rattle.ng_language.specs.Unfolding.{level_limit}
use Rattle.ng_value.proofs.unfolding.levels.Goals as goal

pub returns : goal.returns
unfolding level_limit
returns c = refl
