use Rattle.std.proofs.Common.{map}
use Rattle.ng_base.specs.ViewOf.{view_of}
use Rattle.ng_filters.proofs.Kept.{part_within}
use Rattle.ng_filters.proofs.laws.limit_is_a_part.Goals as goal

pub returns : goal.returns
returns c = part_within c.args.limit (view_of c.args.begin.now) (map view_of c.args.entries.now)
