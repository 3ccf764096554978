use Rattle.std.proofs.Common.{◌≡◌, ap, length, ◌∙◌}
use Rattle.ng_watch.specs.Ended.{is_over, over, without_over}
use Rattle.ng_watch.specs.Table.{Table}
use Rattle.ng_link.specs.Calls.{rested}
use Rattle.ng_link.specs.State.{Resting, resting_of, state_of, templates_of}
use Rattle.ng_link.proofs.Same.{rested_stands}
use Rattle.ng_link.proofs.Watched.{stand_found}
use Rattle.ng_link.proofs.works.Works.end_over.Goals as goal

pub take_over-requires : goal.take_over-requires
take_over-requires c = stand_found (length (state_of c.args.self.now).core.objects) (state_of c.args.self.now).watchers c.requires.stands

pub returns-clause-state : goal.returns-clause-state
returns-clause-state c =
    let s = state_of c.args.self.now in
    let objects = s.core.objects in
    let resting : resting_of c.rest_all.new.resting.entries ≡ rested s.inner s.instances (over objects s.watchers) s.resting =
    c.in_ok-rest_all.ensures.rested (templates_of c.args.self.now) ∙ ap (λ (t : Table). rested s.inner s.instances t s.resting) c.in_ok-rows.ensures.taken in
    ap (λ (t : Table). record s { watchers = t; resting = resting_of c.rest_all.new.resting.entries }) c.in_ok-rows.ensures.removed
    ∙ ap (λ (r : Resting). record s { watchers = without_over objects s.watchers; resting = r }) resting

pub returns-clause-stands : goal.returns-clause-stands
returns-clause-stands c =
    let s = state_of c.args.self.now in
    rested_stands c.args.self.now c.take_over.new.self c.rest_all.new.resting c.args.self.now.declared (λ e. is_over s.core.objects e.1)
    c.count.ensures.ordered c.in_ok-rows.ensures.removed
    (c.in_ok-rest_all.ensures.rested (templates_of c.args.self.now) ∙ ap (λ (t : Table). rested s.inner s.instances t s.resting) c.in_ok-rows.ensures.taken)
