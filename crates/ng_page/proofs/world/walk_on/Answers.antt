use Rattle.std.proofs.Common.{Option, IfOk, subst}
use Rattle.ng_base.specs.declared.path.Key.{Key}
use Rattle.ng_link.specs.State as link
use Rattle.ng_watch.specs.Walks.{Walks, reached_of}
use Rattle.ng_watch.specs.declared.walking.Walk.{Walk}
use Rattle.ng_page.proofs.world.walk_on.Goals as goal

pub returns-clause-way : goal.returns-clause-way
returns-clause-way c =
    let e = c.args.engine.now in
    let s = link.state_of e.works in
    subst (λ (o : Option Key). IfOk c.walk_to.result (λ (w : Walk). Walks s.core.objects s.watchers o e.progress.cursor w.passed (reached_of w.reached))) c.remembered.ensures c.walk_to.ensures.way
