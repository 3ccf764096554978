-- What is said of a watch holds of its watcher.
use Rattle.std.proofs.Common.{◌≡◌, ℕ, Option, Some, None}
use Rattle.std.specs.Prelude.{option_map}
use Rattle.std.specs.Option.{ForSome}
use Rattle.ng_watch.specs.Seen.{Watching, Watcher, WatchStands}
use Rattle.std.proofs.Common.{subst, sym}

pub watch_stands : (o : Option Watcher) (w : Watching) (count : ℕ) → option_map (λ x. x.watch) o ≡ Some w → WatchStands count w → ForSome o (λ x. WatchStands count x.watch)
watch_stands o w count e h = λ x i. let same : w ≡ x.watch = (let f = rw i at e in cc) in let P : Watching → Type 0 = λ v. WatchStands count v in subst P same h
