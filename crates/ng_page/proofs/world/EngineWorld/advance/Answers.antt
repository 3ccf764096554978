use Rattle.std.proofs.Common.{Bool, is_some, subst, sym}
use Rattle.ng_base.specs.declared.path.Key.{Key}
use Rattle.ng_digest.specs.Passing.{Passes}
use Rattle.ng_digest.specs.Progress.{Standing, place}
use Rattle.ng_link.specs.State as link
use Rattle.ng_watch.specs.Walks.{reached_of}
use Rattle.ng_page.specs.PageMachine.{page_machine}
use Rattle.ng_page.specs.PlaceOf.{state_of, place_of, key_at}
use Rattle.ng_page.proofs.Ahead.{holds_came, walk_passes, walk_reaches}
use Rattle.ng_page.proofs.StaysClean.{came_at}
use Rattle.ng_page.proofs.world.EngineWorld.advance.Goals as goal

pub returns-clause-way : goal.returns-clause-way
returns-clause-way c =
    let e = c.args.self.now in
    let w = c.in_ok-walk.walk in
    let a = reached_of w.reached in
    subst (λ (b : Bool). Passes page_machine (place_of e) b (place (state_of e) c.arrive.new.progress)) (sym c.arrive.ensures.answer)
    (subst (λ (q : Standing Key). Passes page_machine (place_of e) (is_some (key_at a)) (place (state_of e) q)) (sym c.arrive.ensures.step)
    (walk_passes (state_of e) e.progress w.passed a c.walk_on.ensures.sorted c.in_ok-walk.ensures.way))

pub returns-clause-holds : goal.returns-clause-holds
returns-clause-holds c =
    let e = c.args.self.now in
    let s = link.state_of e.works in
    let w = c.in_ok-walk.walk in
    holds_came e c.arrive.new.progress c.arrive.new.ahead c.on_walk.new.known w.passed (reached_of w.reached) c.requires.holds.works c.arrive.ensures.step c.arrive.ensures.ahead
    (walk_reaches s.core.objects s.watchers e.progress.remembered c.in_ok-walk.ensures.way)
    (came_at e.known c.on_walk.new.known e.told.keys s.core.objects s.watchers c.walk_on.ensures.sorted e.progress.remembered e.progress c.arrive.new.progress w.passed (reached_of w.reached) c.on_walk.ensures c.arrive.ensures.step c.in_ok-walk.ensures.way c.requires.holds.known)
