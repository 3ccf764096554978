use Rattle.std.proofs.Common.{List, IfOk, length, subst, sym}
use Rattle.std.specs.List.Sorted.{IsStrictlySortedBy}
use Rattle.std.specs.Map.{keys_of}
use Rattle.std.specs.Option.{option_copied}
use Rattle.ng_base.specs.declared.path.Key.{Key}
use Rattle.ng_link.proofs.Watched.{watchers_found}
use Rattle.ng_link.specs.State as link
use Rattle.ng_behaviour.specs.Keys.{key_cmp}
use Rattle.ng_watch.specs.Table.{watchers_of, AllStand}
use Rattle.ng_watch.specs.Walks.{Walks, reached_of}
use Rattle.ng_watch.specs.declared.walking.Walk.{Walk}
use Rattle.ng_watch.specs.declared.watched.Watched.{Watched}
use Rattle.ng_page.proofs.passing.walk_tested.Goals as goal

pub walk-requires : goal.walk-requires
walk-requires c =
    let s = link.state_of c.args.engine.now.works in
    subst (λ (rows : List (Key × Watched)). AllStand (length s.core.objects) (watchers_of rows)) (sym c.watchers-watchers.ensures) (λ k. watchers_found (length s.core.objects) s.watchers c.requires.whole.standing.1.watched k)

pub returns-clause-way : goal.returns-clause-way
returns-clause-way c =
    let objects = (link.state_of c.args.engine.now.works).core.objects in
    subst (λ (rows : List (Key × Watched)). IfOk c.walk.result (λ (w : Walk). Walks objects (watchers_of rows) (option_copied c.args.last) (option_copied c.args.from) w.passed (reached_of w.reached))) c.watchers-watchers.ensures c.walk.ensures

pub returns-clause-sorted : goal.returns-clause-sorted
returns-clause-sorted c = subst (λ (rows : List (Key × Watched)). IsStrictlySortedBy key_cmp (keys_of (watchers_of rows))) c.watchers-watchers.ensures c.count-in_order.ensures.ordered
