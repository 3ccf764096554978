-- How a page is opened, step by step.
use Rattle.std.proofs.Common.{◌≡◌, ◌<◌, List, length, ap, sym, subst, ◌∙◌}
use Rattle.ng_core.specs.Frames.{IsSound}
use Rattle.ng_core.specs.State as act
use Rattle.ng_app.specs.App.{Facts}
use Rattle.ng_app.specs.Directives.{all_programs}
use Rattle.ng_app.specs.Installing.{installed}
use Rattle.ng_base.specs.declared.fault.Fault.{Fault}
use Rattle.ng_dom.specs.Drawing.{Stands, none_stand}
use Rattle.ng_drawing.specs.Template.{Template}
use Rattle.ng_changes.specs.Runs.{followed, program_run}
use Rattle.ng_changes.specs.Whole.{IsWhole, ListenersStand, RowsStand, HaveScopes, HaveBodies}
use Rattle.ng_language.specs.Trees.{Trees}
use Rattle.ng_link.specs.Calls.{blank, with_core}
use Rattle.ng_link.specs.Standing.{Standing}
use Rattle.ng_link.specs.State.{State, state_of}
use Rattle.ng_parts.specs.Directing.{Programs}
use Rattle.ng_drawing.specs.Named.{Named}
use Rattle.ng_link.specs.declared.works.Works.{Works}
use Rattle.ng_page.specs.Opening.{prepared, templates_for}

-- works where nothing is watched or linked yet
pub whole_new : (w : Works) (all : List Named) (ds : List Programs) (c : act.State) → state_of w ≡ blank all ds c → IsSound w.core → w.core.depth ≡ 0 → 0 < length w.core.scopes → Standing w none_stand → IsWhole w
whole_new w all ds c e sound idle root stands = record {
  sound = sound;
  idle = idle;
  root = root;
  standing = (none_stand, stands);
  listeners = subst (λ d. ListenersStand (length w.core.scopes) d) (sym (ap (λ (s : State). s.declared) e)) tt;
  kept = subst (λ t. RowsStand (length w.core.store) (state_of w).inner (state_of w).instances t) (sym (ap (λ (s : State). s.watchers) e)) tt;
  scopes = subst (λ is. HaveScopes w.core.scopes (state_of w).inner is) (sym (ap (λ (s : State). s.instances) e)) tt;
  bodies = subst (λ is. HaveBodies (state_of w).templates is) (sym (ap (λ (s : State). s.instances) e)) tt;
}

pub prepared_by : (u : Template) (f : Facts) (v w : Works) (all : List Named) (ds : List Programs) (p : Trees) (c : act.State) → state_of v ≡ blank all ds c → all ≡ templates_for u f → ds ≡ all_programs f.directives → c ≡ installed f → p ≡ f.run
    → state_of w ≡ followed (program_run 0 p (state_of v).core) (state_of v) → state_of w ≡ prepared u f
prepared_by u f v w all ds p c e a d g i h =
    let made : blank all ds c ≡ blank (templates_for u f) (all_programs f.directives) (installed f) =
    ap (λ (ts : List Named). blank ts ds c) a ∙ (ap (λ (qs : List Programs). blank (templates_for u f) qs c) d ∙ ap (blank (templates_for u f) (all_programs f.directives)) g) in
    h
    ∙ (ap (λ (s : State). followed (program_run 0 p s.core) s) (e ∙ made)
    ∙ ap (λ q. followed (program_run 0 q (installed f)) (blank (templates_for u f) (all_programs f.directives) (installed f))) i)

-- a fault is handed over, and what holds of the works holds
pub whole_told : (v w : Works) (f : Fault) → state_of w ≡ with_core (act.with_fault f (state_of v).core) (state_of v) → (IsSound v.core → IsSound w.core) → w.core.depth ≡ v.core.depth → ((ts : Stands) → Standing v ts → Standing w ts) → IsWhole v → IsWhole w
whole_told v w f e sound depth stands h = record {
  sound = sound h.sound;
  idle = depth ∙ h.idle;
  root = subst (λ (x : State). 0 < length x.core.scopes) (sym e) h.root;
  standing = (h.standing.0, stands h.standing.0 h.standing.1);
  listeners = subst (λ (x : State). ListenersStand (length x.core.scopes) x.declared) (sym e) h.listeners;
  kept = subst (λ (x : State). RowsStand (length x.core.objects) x.inner x.instances x.watchers) (sym e) h.kept;
  scopes = subst (λ (x : State). HaveScopes x.core.scopes x.inner x.instances) (sym e) h.scopes;
  bodies = subst (λ (x : State). HaveBodies x.templates x.instances) (sym e) h.bodies;
}
