use Rattle.std.proofs.Common.{◌≡◌, ◌∙◌, List, Option, IfOk, ap, subst}
use Rattle.std.specs.Option.{option_copied}
use Rattle.ng_base.specs.declared.path.Key.{Key}
use Rattle.ng_link.specs.State as link
use Rattle.ng_watch.specs.Table.{watchers_of}
use Rattle.ng_watch.specs.Walks.{Walks, next_of, reached_of}
use Rattle.ng_watch.specs.declared.walking.Walk.{Walk}
use Rattle.ng_watch.specs.declared.watched.Watched.{Watched}
use Rattle.ng_page.proofs.world.step_on.Goals as goal

pub returns-clause-way : goal.returns-clause-way
returns-clause-way c =
    let e = c.args.engine.now in
    let s = link.state_of e.works in
    let next : option_copied c.key_from-next.result ≡ next_of e.progress.cursor s.watchers =
    c.key_from-next.ensures
    ∙ ap (λ (o : Option Key). next_of o (watchers_of c.watchers.result.now)) c.cursor.ensures
    ∙ ap (λ (rows : List (Key × Watched)). next_of e.progress.cursor (watchers_of rows)) c.watchers.ensures in
    subst (λ (o : Option Key). IfOk c.walk_to.result (λ (w : Walk). Walks s.core.objects s.watchers o e.progress.cursor w.passed (reached_of w.reached))) next c.walk_to.ensures.way
