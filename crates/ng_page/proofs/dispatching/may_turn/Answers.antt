use Rattle.std.proofs.Common.{◌∙◌, [], ◌∷◌, ap, sym}
use Rattle.ng_link.specs.State.{state_of}
use Rattle.ng_parse.specs.ProgramOf.{program}
use Rattle.ng_commands.specs.Handling.{has_turn}
use Rattle.ng_page.specs.Dispatched.{told_of, told_all}
use Rattle.ng_commands.specs.HandlingOf.{happening_seen, going}
use Rattle.ng_page.proofs.Bubbling.{one_turn, pushed_settled, none_pushed, told_pushed}
use Rattle.ng_page.proofs.dispatching.may_turn.Goals as goal

pub returns-clause-turn : goal.returns-clause-turn
returns-clause-turn c =
    let x = happening_seen c.args.happening in
    let g = going c.args.engine.now.works c.args.dispatch.now.event in
    let o = c.in_ok-outcome.outcome in (
      told_of o ∷ [],
      one_turn (has_turn c.args.n g) x c.args.n (program c.args.p.now) g (told_of o) (going c.turn.new.engine.works c.turn.new.event) (sym c.has_turn.ensures ∙ c.if-not-has_turn.false) c.in_ok-outcome.ensures.turn,
      ap told_all c.in_ok-push.ensures.ok ∙ told_pushed c.args.dispatch.now.outcomes o,
    )

pub returns-clause-still : goal.returns-clause-still
returns-clause-still c = λ none. absurd (none_pushed c.args.dispatch.now.outcomes c.in_ok-outcome.outcome (sym c.in_ok-push.ensures.ok ∙ none))

pub returns-clause-settled : goal.returns-clause-settled
returns-clause-settled c = rw c.in_ok-push.ensures.ok (pushed_settled c.args.dispatch.now.outcomes c.in_ok-outcome.outcome (state_of c.turn.new.engine.works) c.in_ok-outcome.ensures.settled)
