use Rattle.std.proofs.Common.{◌≡◌, List, Some, length, subst}
use Rattle.std.specs.Prelude.{option_map}
use Rattle.ng_base.specs.ViewOf.{view_of}
use Rattle.ng_base.specs.declared.path.Key.{Key}
use Rattle.ng_fire.proofs.Fired.{dirty_found, watch_stands}
use Rattle.ng_link.proofs.Watched.{stand_found}
use Rattle.ng_link.specs.State.{state_of}
use Rattle.ng_watch.specs.Seen.{Watcher, watching_of}
use Rattle.ng_watch.specs.Table.{found, watchers_of}
use Rattle.ng_watch.specs.declared.watched.Watched.{Watched}
use Rattle.ng_fire.proofs.firing.dirty_value.Goals as goal

pub value_now-requires : goal.value_now-requires
value_now-requires c =
    let w = c.args.works.now in
    let k = c.args.key.now in
    let o = found k (state_of w).watchers in
    let x = watching_of c.watch.result.now in
    let at = subst (λ (ws : List (Key × Watched)). option_map (λ (y : Watcher). y.watch) (found k (watchers_of ws)) ≡ Some x) c.watchers.ensures c.watch.ensures in
    (watch_stands (length w.core.store) o x at (stand_found (length w.core.store) (state_of w).watchers c.requires.whole.standing.1.watched k)).0

pub returns-in-Ok-clause-snapshot : goal.returns-in-Ok-clause-snapshot
returns-in-Ok-clause-snapshot c =
    let w = c.args.works.now in
    let k = c.args.key.now in
    let o = found k (state_of w).watchers in
    let x = watching_of c.watch.result.now in
    let at = subst (λ (ws : List (Key × Watched)). option_map (λ (y : Watcher). y.watch) (found k (watchers_of ws)) ≡ Some x) c.watchers.ensures c.watch.ensures in
    λ now d. dirty_found w.core.store c.sound.ensures o x (view_of c.in-Ok.value) now at d
    (watch_stands (length w.core.store) o x at (stand_found (length w.core.store) (state_of w).watchers c.requires.whole.standing.1.watched k))
    c.in-Ok.ensures.exact c.in-Ok.ensures.stands
