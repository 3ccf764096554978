use Rattle.std.proofs.Common.{◌∙◌, ap}
use Rattle.std.specs.Ordering.{nat_cmp}
use Rattle.ng_build.proofs.Tables.{put-seen}
use Rattle.ng_instances.specs.BoundOf.{bound_of, bounds_of}
use Rattle.ng_steps.proofs.binding.note_in.Goals as goal

pub returns : goal.returns
returns c = ap bounds_of c.in_ok-insert.ensures.entries ∙ put-seen bound_of nat_cmp c.args.serial c.args.bound c.args.bounds.now.entries
