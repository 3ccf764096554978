-- What a watcher would keep now (guide: Scopes, "Scope `$watch` Depths").
use Rattle.std.specs.Prelude.{ℕ, List, [], map, Result, Ok}
use Rattle.ng_base.specs.Meets.{◌>>=◌}
use Rattle.ng_base.specs.Objects.{Object}
use Rattle.ng_base.specs.Views.{ViewTree, prim, list, rec, views_from}
use Rattle.ng_base.specs.declared.fault.Fault.{Fault}
use Rattle.ng_base.specs.declared.value.Value.TheVariants as value
use Rattle.ng_language.specs.Texts.{show_text, class_words}
use Rattle.ng_language.specs.declared.snapshots.SnapKind.{SnapKind}
use Rattle.ng_language.specs.declared.snapshots.SnapKind.TheVariants as snaps
use Rattle.ng_value.specs.Taken.{taken}
use Rattle.ng_evaluation.specs.Evaluation.{evaluated_program}
use Rattle.ng_watch.specs.Seen.{Watching}
use Rattle.ng_watch.specs.declared.watch.WatchKind.{WatchKind}
use Rattle.ng_watch.specs.declared.watch.WatchKind.TheVariants as kinds

-- The value of the program over its scope, or the fault that it meets. It is closed where its steps don't matter.
unfoldable pub value_now : List Object → Watching → Result ViewTree Fault
value_now objects w = evaluated_program objects w.scope [] w.program

-- A two-way binding compares values by identity, but a fresh list or record, which has none, by what it holds.
abbrev pub two_way_kind : ViewTree → SnapKind
two_way_kind (prim v) = snaps.Reference
two_way_kind (list ts) = snaps.Deep
two_way_kind (rec fs) = snaps.Deep

abbrev pub text_view : List ℕ → ViewTree
text_view t = prim (value.Text t)

abbrev pub word_list : List (List ℕ) → ViewTree
word_list ws = list (views_from (map text_view ws))

-- what a watcher of a kind keeps of a value: a text is kept as a value, words as a list of texts
abbrev pub snapshot_of : WatchKind → List Object → ViewTree → Result ViewTree Fault
snapshot_of kinds.Reference objects v = taken snaps.Reference objects v
snapshot_of kinds.Collection objects v = taken snaps.Collection objects v
snapshot_of kinds.Deep objects v = taken snaps.Deep objects v
snapshot_of kinds.Text objects v = show_text objects v >>= λ t. Ok (text_view t)
snapshot_of kinds.Words objects v = class_words objects v >>= λ ws. Ok (word_list ws)
snapshot_of (kinds.TwoWay dest name) objects v = taken (two_way_kind v) objects v

-- the snapshot of now, or the fault that is met instead
abbrev pub now : List Object → Watching → Result ViewTree Fault
now objects w = value_now objects w >>= snapshot_of w.kind objects
