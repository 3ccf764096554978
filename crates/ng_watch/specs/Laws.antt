-- What the verdict of a watcher says (guide: Scopes, "Scope Life Cycle").
use Rattle.std.specs.Prelude.{◌≡◌, ◌↔◌, Bool, true, false, List, Some, Ok, Err}
use Rattle.ng_base.specs.Objects.{Object}
use Rattle.ng_base.specs.Views.{ViewTree}
use Rattle.ng_base.specs.declared.fault.Fault.{Fault}
use Rattle.ng_watch.specs.Now.{now}
use Rattle.ng_watch.specs.Seen.{Watcher}
use Rattle.ng_watch.specs.Table.{keeping}
use Rattle.ng_watch.specs.Verdicts.{clean, dirty, verdict}
use Rattle.ng_watch.specs.declared.watch.WatchKind.{WatchKind}
use Rattle.ng_watch.specs.declared.watch.WatchKind.TheVariants as kinds

abbrev pub is_two_way : WatchKind → Bool
is_two_way (kinds.TwoWay dest name) = true
is_two_way kind = false

-- a watcher is clean exactly where what it would keep now is what it has kept
abbrev pub CleanHasKept : Type 0
CleanHasKept = (objects : List Object) (w : Watcher) → is_two_way w.watch.kind ≡ false → (verdict objects w ≡ Ok clean) ↔ ((s : ViewTree) × (now objects w.watch ≡ Ok s) × (w.kept ≡ Some s))

-- its test meets a fault exactly where its snapshot of now does
abbrev pub FaultsAreOfNow : Type 0
FaultsAreOfNow = (objects : List Object) (w : Watcher) → is_two_way w.watch.kind ≡ false → (f : Fault) → (verdict objects w ≡ Err f) ↔ (now objects w.watch ≡ Err f)

-- once it has kept what a dirty test handed on, it is clean
abbrev pub KeptIsClean : Type 0
KeptIsClean = (objects : List Object) (w : Watcher) (s : ViewTree) → is_two_way w.watch.kind ≡ false → verdict objects w ≡ Ok (dirty s) → verdict objects (keeping (Some s) w) ≡ Ok clean
