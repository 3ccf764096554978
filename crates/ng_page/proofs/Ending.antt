-- The end of a command.
use Rattle.std.proofs.Common.{◌≡◌, false, Ok, refl}
use Rattle.ng_drawing.specs.Drawing.{shown_as}
use Rattle.ng_link.specs.State as link
use Rattle.ng_link.specs.State.{shown, rendering}
use Rattle.ng_page.specs.Answered.{WhenOk}
use Rattle.ng_page.specs.Commanded.{Ended}
use Rattle.ng_page.specs.OutcomeOf.{outcome_of}
use Rattle.ng_page.specs.PageOf.{state_of}
use Rattle.ng_commands.specs.BetweenSteps.{PageIs}
use Rattle.ng_commands.specs.Settled.{IsSettled}
use Rattle.ng_page.specs.Steps.{Ends, EndsShort}
use Rattle.ng_page.specs.declared.outcome.Outcome.{Outcome}
use Rattle.ng_page.specs.declared.page.Page.{Page}
use Rattle.ng_page.proofs.Rendering.{settled_renders, when_done}
use Rattle.ng_commands.proofs.Wholes.{works_display}

-- a page that is settled shows its rendering
pub page_renders : (s : link.State) (o : Outcome) (p : Page) → s ≡ state_of p → PageIs p.engine.works → WhenOk o.digest (IsSettled (state_of p)) → WhenOk o.digest (rendering (state_of p) ≡ shown_as (shown (state_of p)))
page_renders s o p e h settled = when_done (IsSettled (state_of p)) (rendering (state_of p) ≡ shown_as (shown (state_of p))) o.digest settled (λ x. settled_renders (state_of p) x h.watched h.works.whole.standing.1.inner h.fits)

pub ended_well : (s : link.State) (o : Outcome) (new : Page) → new.spent ≡ false → Ends s (outcome_of o) (state_of new) → EndsShort s o.digest (state_of new) → WhenOk o.digest (IsSettled (state_of new)) → PageIs new.engine.works
    → Ended (Ok tt) s (Ok o) new
ended_well s o new spent step report settled h = record {
  left = spent;
  finished = refl;
  step = step;
  report = report;
  displays = works_display new.engine.works h.works;
  settled = settled;
  renders = page_renders (state_of new) o new refl h settled;
  page = λ f. h;
  worn = tt;
}
