use Rattle.std.proofs.Common.{◌∙◌, Err, sym, subst}
use Rattle.serde_json.specs.View.{view}
use Rattle.ng_commands.specs.Handling.{Happening}
use Rattle.ng_act.specs.Worn.{told}
use Rattle.ng_page.specs.Causes.{HasCause}
use Rattle.ng_page.specs.Dispatched.{Dispatched}
use Rattle.ng_page.specs.PageOf.{state_of}
use Rattle.ng_steps.specs.Worn.{is_worn}
use Rattle.ng_page.proofs.Answering.{dispatched_spent, dispatched_none, dispatched_some, dispatched_wanting}
use Rattle.ng_page.proofs.page.Page.dispatch.Goals as goal

pub dispatch_at-requires-clause-page : goal.dispatch_at-requires-clause-page
dispatch_at-requires-clause-page c = c.requires.page c.if-self.false

pub returns-then-self : goal.returns-then-self
returns-then-self c = dispatched_spent (record { type = c.args.event.now; extra = view c.args.extra.now }) c.args.n.made.0 c.args.self.now c.if-self.true c.requires.page

pub returns-then-is_empty : goal.returns-then-is_empty
returns-then-is_empty c =
    dispatched_none (record { type = c.args.event.now; extra = view c.args.extra.now }) c.args.n.made.0 c.args.self.now c.dispatch_at.new.engine c.in-Ok.outcomes c.if-self.false (sym c.is_empty.ensures ∙ c.if-is_empty.true) c.in-Ok.ensures.still c.in-Ok.ensures.step c.requires.page

pub returns-else-is_empty : goal.returns-else-is_empty
returns-else-is_empty c =
    dispatched_some (record { type = c.args.event.now; extra = view c.args.extra.now }) c.args.n.made.0 c.args.self.now (record { engine = c.dispatch_at.new.engine; spent = c.args.self.now.spent }) c.in-Ok.outcomes c.if-self.false c.if-self.false
    (sym c.is_empty.ensures ∙ c.if-is_empty.false) c.in-Ok.ensures.step c.in-Ok.ensures.settled c.in-Ok.ensures.page

pub returns-in-Err : goal.returns-in-Err
returns-in-Err c =
    let x : Happening = record { type = c.args.event.now; extra = view c.args.extra.now } in
    subst (λ f. Dispatched x c.args.n.made.0 c.args.self.now (Err f) c.wanting.new.self) (sym c.wanting.ensures.answer)
    (dispatched_wanting x c.args.n.made.0 c.args.self.now (told (is_worn (state_of c.wanting.new.self)) c.in-Err.memory) c.wanting.new.self c.if-self.false c.wanting.ensures.spent
    (subst (λ f. HasCause c.wanting.new.self f) c.wanting.ensures.answer c.wanting.ensures.worn))
