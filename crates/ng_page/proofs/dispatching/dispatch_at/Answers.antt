use Rattle.std.proofs.Common.{◌∙◌}
use Rattle.ng_link.specs.State.{state_of}
use Rattle.ng_page.specs.Dispatched.{told_all}
use Rattle.ng_commands.specs.HandlingOf.{event_seen}
use Rattle.serde_json.specs.View.{view}
use Rattle.ng_page.proofs.Bubbling.{dispatched_by, last_settled}
use Rattle.ng_page.proofs.Turns.{if_ok}
use Rattle.ng_page.proofs.dispatching.dispatch_at.Goals as goal

pub returns-clause-step : goal.returns-clause-step
returns-clause-step c =
    if_ok c.bubble.result c.bubble.ensures.bubbles
    (λ os b. dispatched_by (record { type = c.args.name.now; extra = view c.args.extra.now }) c.args.n.made.0 c.as_slice.result.now (state_of c.args.engine.now.works) (state_of c.bubble.new.engine.works) (event_seen b.0) (told_all os) (c.as_slice.ensures.value ∙ c.in_ok-way.ensures) b.1)

pub returns-clause-settled : goal.returns-clause-settled
returns-clause-settled c = if_ok c.bubble.result c.bubble.ensures.settled (λ os settled. last_settled os (state_of c.bubble.new.engine.works) settled)
