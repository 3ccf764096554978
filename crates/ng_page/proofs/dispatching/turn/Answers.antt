use Rattle.std.proofs.Common.{length, refl}
use Rattle.ng_link.specs.State.{state_of}
use Rattle.ng_parse.specs.ProgramOf.{program}
use Rattle.ng_commands.specs.HandlingOf.{happening_seen, going}
use Rattle.ng_page.specs.OutcomeOf.{outcome_of}
use Rattle.ng_commands.proofs.Handled.{below_still}
use Rattle.ng_page.proofs.Turns.{takes_turn, turn_settled, ends_grown, if_ok_both, on_ok_if, before_rest}
use Rattle.ng_page.proofs.dispatching.turn.Goals as goal

pub returns-clause-turn : goal.returns-clause-turn
returns-clause-turn c =
    let x = happening_seen c.args.happening in
    let g = going c.args.engine.now.works c.args.event.now in
    let h = going c.conclude.new.engine.works c.run_turn.new.event in
    if_ok_both c.conclude.result c.conclude.ensures.step c.conclude.ensures.report
    (λ o ends short. takes_turn x c.args.n (program c.args.p.now) g h (state_of c.run_turn.new.works) o c.in_ok-run_turn.ensures.state c.in_ok-run_turn.ensures.event ends short)

pub returns-clause-settled : goal.returns-clause-settled
returns-clause-settled c =
    let x = happening_seen c.args.happening in
    let g = going c.args.engine.now.works c.args.event.now in
    if_ok_both c.conclude.result c.conclude.ensures.step c.conclude.ensures.settled
    (λ o ends settled. turn_settled (before_rest x c.args.n (program c.args.p.now) g) (state_of c.run_turn.new.works) o.digest o (state_of c.conclude.new.engine.works) refl c.in_ok-run_turn.ensures.state ends settled)

pub returns-clause-below : goal.returns-clause-below
returns-clause-below c =
    on_ok_if c.conclude.result c.conclude.ensures.step
    (λ o ends. below_still (length c.run_turn.new.works.core.store) (length c.conclude.new.engine.works.core.store) c.run_turn.new.event
    (ends_grown (state_of c.run_turn.new.works) (outcome_of o) (state_of c.conclude.new.engine.works) ends) c.in_ok-run_turn.ensures.below)
