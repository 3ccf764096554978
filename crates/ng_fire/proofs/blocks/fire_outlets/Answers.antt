use Rattle.std.proofs.Common.{length}
use Rattle.ng_value.specs.Snaps.{snap_of}
use Rattle.ng_write.proofs.More.{view_more}
use Rattle.ng_fire.proofs.blocks.fire_outlets.Goals as goal

pub fill_outlets-requires-clause-value : goal.fill_outlets-requires-clause-value
fill_outlets-requires-clause-value c =
    view_more (length c.args.works.now.core.store) (length c.empty_outlets.new.works.core.store) c.in_ok-empty_outlets.ensures.grown (snap_of c.args.value.now) c.requires.value
