-- What holds of a page after a program ran on its core.
use Rattle.std.proofs.Common.{◌≡◌, ◌≤◌, ◌<◌, [], length, Result, Ok, Err, ap, sym, subst}
use Rattle.ng_core.specs.Frames as cores
use Rattle.ng_core.specs.Frames.{IsSound, Acts}
use Rattle.ng_act.specs.Running.{same}
use Rattle.ng_core.specs.State.{State, Run}
use Rattle.ng_core.specs.declared.core_state.Core.{Core}
use Rattle.ng_base.specs.declared.fault.Fault.{Fault}
use Rattle.ng_base.specs.declared.path.Key.{Key}
use Rattle.ng_base.specs.declared.value.Value.{Value}
use Rattle.ng_changes.specs.Whole.{IsWhole, Unless}
use Rattle.ng_control.specs.State.{ControlState}
use Rattle.ng_dom.specs.Drawing.{Stands}
use Rattle.ng_changes.proofs.Wholes as works
use Rattle.ng_changes.proofs.Wholes.{stays_of, whole_after, whole_with}
use Rattle.ng_link.specs.Calls.{with_control_at}
use Rattle.ng_link.specs.Standing.{Standing}
use Rattle.ng_link.specs.State as link
use Rattle.ng_link.specs.State.{state_of, templates_of}
use Rattle.ng_link.specs.declared.works.Works.{Works}
use Rattle.ng_commands.specs.Commands.{Asked, asked_run}
use Rattle.ng_commands.specs.BetweenSteps.{PageIs}
use Rattle.ng_commands.proofs.EventsStay.{part, Stays}
use Rattle.ng_commands.proofs.FitsStay.{fits_stays}
use Rattle.ng_commands.proofs.ScopesStay.{same_paths}
use Rattle.ng_commands.proofs.Sites.{SitesStay}
use Rattle.ng_commands.proofs.StepsStay.{control_sites, asked_sites}
use Rattle.ng_commands.proofs.Watched.{watched_stays}

pub whole_stays : (w : Works) (d : Core) (s : State) → s ≡ cores.state_of d → Stays (part (cores.state_of w.core)) (part s) → IsSound d → d.depth ≡ 0 → length d.scopes ≡ length w.core.scopes → length w.core.store ≤ length d.store
    → IsWhole w → IsWhole (record w { core = d })
whole_stays w d s e stay sound idle scopes store h =
    let there : Stays (part (cores.state_of w.core)) (part (cores.state_of d)) = subst (λ x. Stays (part (cores.state_of w.core)) (part x)) e stay in
    whole_after w d h sound idle (same_paths w.core.scopes d.scopes scopes there.scopes.paths) store there.serial

pub whole_ran : (w : Works) (d : Core) (r : Result Value Fault) (run : Run Value) → Acts same r (cores.state_of d) run → Stays (part (cores.state_of w.core)) (part run.0) → IsSound d → d.depth ≡ 0 → length d.scopes ≡ length w.core.scopes → length w.core.store ≤ length d.store
    → IsWhole w → Unless r (IsWhole (record w { core = d }))
whole_ran w d (Ok v) run a stay sound idle scopes store h = whole_stays w d run.0 (ap (λ (x : Run Value). x.0) a) stay sound idle scopes store h
whole_ran w d (Err f) run a stay sound idle scopes store h = λ e. whole_stays w d run.0 (ap (λ (x : Run Value). x.0) (a e)) stay sound idle scopes store h

-- what leaves the sites of a page leaves a page
pub page_left : (v w : Works) (s : link.State) → state_of w ≡ s → SitesStay (state_of v) s → IsWhole w → templates_of w ≡ templates_of v → PageIs v → PageIs w
page_left v w s e stay whole ts h = record {
  works = record { whole = whole; templates = subst (λ t. 0 < length t) (sym ts) h.works.templates };
  watched = watched_stays (state_of v) (state_of w) (subst (SitesStay (state_of v)) (sym e) stay) h.watched;
  fits = fits_stays (state_of v) (state_of w) [] (subst (SitesStay (state_of v)) (sym e) stay) h.watched.keys h.fits;
}

-- a control takes something
pub control_whole : (f : ControlState → ControlState) (k : Key) (v w : Works) → state_of w ≡ with_control_at f k (state_of v) → w.core ≡ v.core → ((ts : Stands) → Standing v ts → Standing w ts) → IsWhole v → IsWhole w
control_whole f k v w e core stands h =
    let g = stays_of v h in
    whole_with v w h core stands
    (subst (λ (s : link.State). works.Stays v.core.scopes (length v.core.store) s) (sym e) (record { listeners = g.listeners; rows = g.rows; scopes = g.scopes; bodies = g.bodies }))

pub page_controlled : (f : ControlState → ControlState) (k : Key) (v w : Works) → state_of w ≡ with_control_at f k (state_of v) → w.core ≡ v.core → ((ts : Stands) → Standing v ts → Standing w ts) → templates_of w ≡ templates_of v
    → PageIs v → PageIs w
page_controlled f k v w e core stands ts h =
    page_left v w (with_control_at f k (state_of v)) e (control_sites f k (state_of v)) (control_whole f k v w e core stands h.works.whole) ts h

pub page_asked : (a : Asked) (v w : Works) → state_of w ≡ asked_run a (state_of v) → IsWhole w → templates_of w ≡ templates_of v → PageIs v → PageIs w
page_asked a v w e whole ts h = page_left v w (asked_run a (state_of v)) e (asked_sites a (state_of v)) whole ts h

-- the state that a run left, where memory was not wanted
pub acts_left : {A B : Type 0} (seen : A → B) (r : Result A Fault) (s : State) (run : Run B) → Acts seen r s run → Unless r (run.0 ≡ s)
acts_left {B = B} seen (Ok v) s run a = ap (λ (x : Run B). x.0) a
acts_left {B = B} seen (Err f) s run a = λ e. ap (λ (x : Run B). x.0) (a e)
