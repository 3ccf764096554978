use Rattle.std.proofs.Common.{length, refl}
use Rattle.ng_link.specs.State.{state_of}
use Rattle.ng_commands.specs.HandlingOf.{going}
use Rattle.ng_page.specs.OutcomeOf.{outcome_of}
use Rattle.ng_page.proofs.Turns.{touches, touched_grown, before_touch_rest, turn_settled, below_touched, ends_grown, if_ok_both, on_ok_if}
use Rattle.ng_page.proofs.dispatching.touch.Goals as goal

pub returns-clause-turn : goal.returns-clause-turn
returns-clause-turn c =
    let g = going c.args.engine.now.works c.args.event.now in
    let h = going c.conclude.new.engine.works c.touched_then.result in
    if_ok_both c.conclude.result c.conclude.ensures.step c.conclude.ensures.report
    (λ o ends short. touches c.args.n g h (state_of c.run_touch.new.works) o c.in_ok-run_touch.ensures.state c.touched_then.ensures ends short)

pub returns-clause-settled : goal.returns-clause-settled
returns-clause-settled c =
    let g = going c.args.engine.now.works c.args.event.now in
    if_ok_both c.conclude.result c.conclude.ensures.step c.conclude.ensures.settled
    (λ o ends settled. turn_settled (before_touch_rest c.args.n g) (state_of c.run_touch.new.works) o.digest o (state_of c.conclude.new.engine.works) refl c.in_ok-run_touch.ensures.state ends settled)

pub returns-clause-below : goal.returns-clause-below
returns-clause-below c =
    let g = going c.args.engine.now.works c.args.event.now in
    on_ok_if c.conclude.result c.conclude.ensures.step
    (λ o ends. below_touched (length c.args.engine.now.works.core.store) (length c.run_touch.new.works.core.store) (length c.conclude.new.engine.works.core.store) c.args.event.now c.touched_then.result c.touched_then.ensures
    (touched_grown c.args.n g (state_of c.run_touch.new.works) c.in_ok-run_touch.ensures.state) (ends_grown (state_of c.run_touch.new.works) (outcome_of o) (state_of c.conclude.new.engine.works) ends) c.requires.below)
