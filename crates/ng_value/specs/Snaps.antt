-- What a snapshot of the code stands for.
use Rattle.ng_base.specs.Views.{ViewTree}
use Rattle.ng_base.specs.ViewOf.{view_of}
use Rattle.ng_value.specs.declared.snapshot.Snap.{Snap}

abbrev pub snap_of : Snap → ViewTree
snap_of s = view_of s.view
