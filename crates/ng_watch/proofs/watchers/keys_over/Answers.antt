use Rattle.std.proofs.Common.{◌≡◌, ◌+◌, ◌++◌, ◌∷◌, ap, drop, length, subst, sym, ◌∙◌}
use Rattle.std.specs.List.{All, filter}
use Rattle.std.specs.Map.{keys_of}
use Rattle.std.proofs.lemmas.List.{drop_more}
use Rattle.ng_base.specs.declared.path.Key.{Key}
use Rattle.ng_watch.specs.Chunks.{Rows}
use Rattle.ng_watch.specs.Ended.{is_over}
use Rattle.ng_watch.specs.Seen.{watcher_of, watching_of, WatchStands}
use Rattle.ng_watch.specs.declared.watched.Watched.{Watched}
use Rattle.ng_watch.proofs.Taking.{all_chunk, chunk_more}
use Rattle.ng_watch.proofs.watchers.keys_over.Goals as goal

pub loop-chunk-preserved : goal.loop-chunk-preserved
loop-chunk-preserved c =
    let i = c.loop-chunk.chunk-index in
    let same : c.rows.result.now ≡ c.chunk-item.result = cc (c.rows.ensures.rows, c.chunk-item.is) in
    let rest = drop_more c.args.chunks.now i c.chunk-item.result c.loop-chunk-test.true ∙ ap (λ (r : Rows). r ∷ drop (i + 1) c.args.chunks.now) (sym c.chunk-item.is) in
    chunk_more (λ (e : Key × Watched). is_over c.args.store.now (watcher_of e.1)) c.loop-chunk.keys.items c.add_over.new.keys.items c.chunk-item.result c.args.chunks.now i c.loop-chunk.invariant rest (c.in_ok-add_over.ensures ∙ ap (λ (es : Rows). c.loop-chunk.keys.items ++ keys_of (filter (λ (e : Key × Watched). is_over c.args.store.now (watcher_of e.1)) es)) same)

pub add_over-requires : goal.add_over-requires
add_over-requires c =
    let same : c.rows.result.now ≡ c.chunk-item.result = cc (c.rows.ensures.rows, c.chunk-item.is) in
    subst (λ (es : Rows). All (λ (e : Key × Watched). WatchStands (length c.args.store.now) (watching_of e.1.watch)) es) (sym same) (all_chunk (λ (e : Key × Watched). WatchStands (length c.args.store.now) (watching_of e.1.watch)) c.args.chunks.now c.loop-chunk.chunk-index c.chunk-item.result c.requires c.loop-chunk-test.true c.chunk-item.is)
