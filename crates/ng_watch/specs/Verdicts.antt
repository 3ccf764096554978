-- When a watcher is dirty (guide: Scopes, "Scope Life Cycle"; API: `$digest`).
use Rattle.std.specs.Prelude.{ℕ, List, Option, Some, None, Result, Ok, unwrap_or, if◌then◌else◌}
use Rattle.ng_base.specs.Meets.{◌>>=◌}
use Rattle.ng_base.specs.Objects.{Object, own}
use Rattle.ng_base.specs.Views.{ViewTree, prim}
use Rattle.ng_base.specs.declared.fault.Fault.{Fault}
use Rattle.ng_base.specs.declared.value.Value.TheVariants as value
use Rattle.ng_bind.specs.Flows.{flow_of}
use Rattle.ng_bind.specs.declared.flow.Flow.{Flow}
use Rattle.ng_bind.specs.declared.flow.Flow.TheVariants as flows
use Rattle.ng_language.specs.Snapshots.{differs}
use Rattle.ng_language.specs.declared.snapshots.SnapKind.{SnapKind}
use Rattle.ng_value.specs.Snaps.{snap_of}
use Rattle.ng_value.specs.Taken.{taken}
use Rattle.ng_watch.specs.Now.{value_now, two_way_kind, snapshot_of}
use Rattle.ng_watch.specs.Seen.{Watcher}
use Rattle.ng_watch.specs.declared.watch.Verdict.{Verdict}
use Rattle.ng_watch.specs.declared.watch.Verdict.TheVariants as verdicts
use Rattle.ng_watch.specs.declared.watch.WatchKind.{WatchKind}
use Rattle.ng_watch.specs.declared.watch.WatchKind.TheVariants as kinds

-- clean, or dirty with the snapshot that is to be kept
pub data Judged : Type 0 where
  clean : Judged
  dirty : ViewTree → Judged

abbrev pub judged_of : Verdict → Judged
judged_of verdicts.Clean = clean
judged_of (verdicts.Dirty s) = dirty (snap_of s)

-- a watcher that has kept nothing is dirty, and so is one whose snapshot of now differs from what it kept
abbrev pub against : Option ViewTree → ViewTree → Judged
against None now = dirty now
against (Some kept) now = if differs now kept then dirty now else clean

-- the side of a binding that wins is kept
abbrev pub won : Flow → ViewTree → ViewTree → Judged
won flows.Still parent own = clean
won flows.ToDest parent own = dirty parent
won flows.ToParent parent own = dirty own

abbrev pub synced : ViewTree → ViewTree → ViewTree → Judged
synced last parent own = won (flow_of (differs parent last) (differs own last)) parent own

-- what an isolate scope itself has under a name
abbrev pub own_value : List Object → ℕ → List ℕ → ViewTree
own_value objects dest name = prim (unwrap_or (own objects dest name) value.Undefined)

-- a binding that has kept nothing takes the parent's value; else both sides are compared with the last one
abbrev pub bound : SnapKind → List Object → ViewTree → Option ViewTree → ViewTree → Result Judged Fault
bound kind objects own None parent = Ok (dirty parent)
bound kind objects own (Some last) parent = taken kind objects own >>= λ o. Ok (synced last parent o)

-- the verdict of a kind, by what was kept, of a value
abbrev pub verdict_of : WatchKind → Option ViewTree → List Object → ViewTree → Result Judged Fault
verdict_of (kinds.TwoWay dest name) kept objects v = taken (two_way_kind v) objects v >>= bound (two_way_kind v) objects (own_value objects dest.0 name) kept
verdict_of kind kept objects v = snapshot_of kind objects v >>= λ s. Ok (against kept s)

-- the verdict of a watcher
abbrev pub verdict : List Object → Watcher → Result Judged Fault
verdict objects w = value_now objects w.watch >>= verdict_of w.watch.kind w.kept objects
