use Rattle.std.proofs.Common.{◌≡◌, drop, map}
use Rattle.ng_core.specs.Frames.{change_of}
use Rattle.ng_changes.specs.Changes.{has_additions}
use Rattle.ng_changes.proofs.changing.has_additions.Given as goal

abbrev pub invariant-loop-change : goal.invariant-loop-change
invariant-loop-change l = has_additions (map change_of (drop l.change-index l.changes)) ≡ has_additions (map change_of l.changes)
