use Rattle.std.proofs.Common.{◌≡◌}
use Rattle.ng_drawing.specs.Drawing.{shown_as}
use Rattle.ng_link.specs.State.{state_of, shown, rendering}
use Rattle.ng_commands.specs.Settled.{IsSettled}
use Rattle.ng_page.proofs.Rendering.{settled_renders, when_done}
use Rattle.ng_commands.proofs.Wholes.{works_display}
use Rattle.ng_page.proofs.page.Page.start.Goals as goal

pub returns-in-Ok-conclude-clause-shown : goal.returns-in-Ok-conclude-clause-shown
returns-in-Ok-conclude-clause-shown c = works_display c.conclude.new.engine.works c.in-Ok-conclude.ensures.page.works

pub returns-in-Ok-conclude-clause-rendering : goal.returns-in-Ok-conclude-clause-rendering
returns-in-Ok-conclude-clause-rendering c =
    let s = state_of c.conclude.new.engine.works in
    when_done (IsSettled s) (rendering s ≡ shown_as (shown s)) c.in-Ok-conclude.outcome.digest c.in-Ok-conclude.ensures.settled (λ x. settled_renders s x c.in-Ok-conclude.ensures.page.watched c.in-Ok-conclude.ensures.page.works.whole.standing.1.inner c.in-Ok-conclude.ensures.page.fits)
