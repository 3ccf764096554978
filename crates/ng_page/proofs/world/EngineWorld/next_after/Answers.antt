use Rattle.std.proofs.Common.{◌∙◌, ap, is_some, sym}
use Rattle.ng_digest.specs.Progress.{Standing, place}
use Rattle.ng_base.specs.declared.path.Key.{Key}
use Rattle.ng_link.specs.State as link
use Rattle.ng_watch.specs.Walks.{next_of, reached_of}
use Rattle.ng_page.specs.PlaceOf.{state_of}
use Rattle.ng_page.proofs.Ahead.{advanced_to, holds_came, next_is, stepped, stepped_to, walk_reaches}
use Rattle.ng_page.proofs.StaysClean.{came_at}
use Rattle.ng_page.proofs.world.EngineWorld.next_after.Goals as goal

pub returns-clause-answer : goal.returns-clause-answer
returns-clause-answer c =
    let e = c.args.self.now in
    let s = link.state_of e.works in
    c.arrive.ensures.answer ∙ ap is_some (stepped s.core.objects s.watchers e.progress.cursor c.in_ok-walk.ensures.way).1 ∙ ap is_some (sym (next_is s.watchers e.progress.cursor))

pub returns-clause-step : goal.returns-clause-step
returns-clause-step c =
    let e = c.args.self.now in
    let s = link.state_of e.works in
    let w = c.in_ok-walk.walk in
    let to = stepped_to s.core.objects s.watchers e.progress w.passed (reached_of w.reached) c.in_ok-walk.ensures.way in
    ap (λ (q : Standing Key). place (state_of e) q) (c.arrive.ensures.step ∙ to) ∙ sym (advanced_to (state_of e) e.progress)

pub returns-clause-holds : goal.returns-clause-holds
returns-clause-holds c =
    let e = c.args.self.now in
    let s = link.state_of e.works in
    let w = c.in_ok-walk.walk in
    holds_came e c.arrive.new.progress c.arrive.new.ahead c.on_walk.new.known w.passed (reached_of w.reached) c.requires.holds.works c.arrive.ensures.step c.arrive.ensures.ahead
    (walk_reaches s.core.objects s.watchers (next_of e.progress.cursor s.watchers) c.in_ok-walk.ensures.way)
    (came_at e.known c.on_walk.new.known e.told.keys s.core.objects s.watchers c.step_on.ensures.sorted (next_of e.progress.cursor s.watchers) e.progress c.arrive.new.progress w.passed (reached_of w.reached) c.on_walk.ensures c.arrive.ensures.step c.in_ok-walk.ensures.way c.requires.holds.known)
