use Rattle.std.proofs.Common.{◌≡◌, ◌++◌, drop}
use Rattle.std.specs.List.{filter}
use Rattle.std.specs.Map.{keys_of}
use Rattle.ng_watch.specs.Ended.{is_over}
use Rattle.ng_watch.specs.Seen.{watcher_of}
use Rattle.ng_watch.proofs.watchers.add_over.Given as goal

abbrev pub invariant-loop-key : goal.invariant-loop-key
invariant-loop-key l = l.initial.keys.items ++ keys_of (filter (λ e. is_over l.store (watcher_of e.1)) l.rows) ≡ l.keys.items ++ keys_of (filter (λ e. is_over l.store (watcher_of e.1)) (drop l.key-index l.rows))
