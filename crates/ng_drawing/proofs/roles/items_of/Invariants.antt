use Rattle.std.proofs.Common.{◌≡◌, ◌++◌, drop, map}
use Rattle.ng_base.specs.Views.{views_from}
use Rattle.ng_base.specs.ViewOf.{view_of}
use Rattle.ng_drawing.specs.Roles.{item_entries}
use Rattle.ng_drawing.specs.RolesOf.{entries_of}
use Rattle.ng_drawing.proofs.roles.items_of.Given as goal

abbrev pub invariant-loop-view : goal.invariant-loop-view
invariant-loop-view l = entries_of l.entries.items ++ item_entries (views_from (map view_of (drop l.view-index l.views))) ≡ item_entries (views_from (map view_of l.views))
