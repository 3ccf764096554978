use Rattle.std.proofs.Common.{◌≡◌, ap, ◌∙◌}
use Rattle.ng_behaviour.specs.Keys.{begins}
use Rattle.ng_watch.specs.Table.{Table, under, without_under}
use Rattle.ng_link.specs.Calls.{rested}
use Rattle.ng_link.specs.State.{Declared, Resting, declared_of, resting_of, state_of, templates_of}
use Rattle.ng_link.proofs.Same.{rested_stands}
use Rattle.ng_link.proofs.works.Works.leave.Goals as goal

pub returns-clause-state : goal.returns-clause-state
returns-clause-state c =
    let s = state_of c.args.self.now in
    let p = c.args.p.now in
    let resting : resting_of c.rest_all.new.resting.entries ≡ rested s.inner s.instances (under p s.watchers) s.resting =
    c.in_ok-rest_all.ensures.rested (templates_of c.args.self.now) ∙ ap (λ (t : Table). rested s.inner s.instances t s.resting) c.in_ok-rows.ensures.taken in
    ap (λ (t : Table). record s { watchers = t; resting = resting_of c.rest_all.new.resting.entries; declared = declared_of c.leave_listeners.new.declared.entries }) c.in_ok-rows.ensures.removed
    ∙ (ap (λ (r : Resting). record s { watchers = without_under p s.watchers; resting = r; declared = declared_of c.leave_listeners.new.declared.entries }) resting
    ∙ ap (λ (d : Declared). record s { watchers = without_under p s.watchers; resting = rested s.inner s.instances (under p s.watchers) s.resting; declared = d }) c.in_ok-leave_listeners.ensures)

pub returns-clause-stands : goal.returns-clause-stands
returns-clause-stands c =
    let s = state_of c.args.self.now in
    let p = c.args.p.now in
    rested_stands c.args.self.now c.take_under.new.self c.rest_all.new.resting c.leave_listeners.new.declared (λ e. begins p e.0.path)
    c.count.ensures.ordered c.in_ok-rows.ensures.removed
    (c.in_ok-rest_all.ensures.rested (templates_of c.args.self.now) ∙ ap (λ (t : Table). rested s.inner s.instances t s.resting) c.in_ok-rows.ensures.taken)
