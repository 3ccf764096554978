use Rattle.std.proofs.Common.{◌≡◌, ◌++◌, drop}
use Rattle.std.specs.List.{filter}
use Rattle.std.specs.Map.{keys_of}
use Rattle.ng_watch.specs.Chunks.{joined}
use Rattle.ng_watch.specs.Ended.{is_over}
use Rattle.ng_watch.specs.Seen.{watcher_of}
use Rattle.ng_watch.proofs.watchers.keys_over.Given as goal

abbrev pub invariant-loop-chunk : goal.invariant-loop-chunk
invariant-loop-chunk l = keys_of (filter (λ e. is_over l.store (watcher_of e.1)) (joined l.chunks)) ≡ l.keys.items ++ keys_of (filter (λ e. is_over l.store (watcher_of e.1)) (joined (drop l.chunk-index l.chunks)))
