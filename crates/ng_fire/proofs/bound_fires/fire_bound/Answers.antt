use Rattle.std.proofs.Common.{◌∙◌, Option, ap, length, subst, sym}
use Rattle.ng_base.specs.ViewOf.{view_of}
use Rattle.ng_base.specs.Views.{ViewTree}
use Rattle.ng_core.specs.declared.core_state.Core.{Core}
use Rattle.ng_fire.proofs.BoundFires.{bound_there}
use Rattle.ng_fire.specs.Bindings.{bound_fired}
use Rattle.ng_fire.specs.Blocks.{begins_firing}
use Rattle.ng_fire.specs.Fires.{value_at}
use Rattle.ng_fire.specs.SiteFires.{bound_site_fired, site_fired_by}
use Rattle.ng_language.specs.Views.{ViewStands}
use Rattle.ng_instances.specs.Bindings.{Bound, BoundStands}
use Rattle.ng_instances.specs.BoundOf.{bound_of}
use Rattle.ng_link.specs.Calls.{keeping_at}
use Rattle.ng_link.specs.State.{State, state_of}
use Rattle.ng_value.specs.Snaps.{snap_of}
use Rattle.ng_watch.specs.Table.{kept_at}
use Rattle.ng_fire.proofs.bound_fires.fire_bound.Goals as goal

pub write_bound-requires-clause-value : goal.write_bound-requires-clause-value
write_bound-requires-clause-value c = subst (λ (x : Core). ViewStands (length x.store) (view_of c.in_ok-value.value)) (sym c.keep_bound.ensures.core) c.in_ok-value.ensures.stands

pub write_bound-requires-clause-bound : goal.write_bound-requires-clause-bound
write_bound-requires-clause-bound c =
    let w = c.args.works.now in
    let b : Bound = bound_of c.args.bound.now in
    subst (λ (x : Core). BoundStands (length x.scopes) b) (sym c.keep_bound.ensures.core)
    (bound_there w.core.scopes (state_of w).inner (state_of w).instances c.args.key.now b c.requires.whole.scopes c.requires.bound)

pub returns-clause-fired : goal.returns-clause-fired
returns-clause-fired c =
    let s : State = state_of c.args.works.now in
    let k = c.args.key.now in
    let v = view_of c.in_ok-value.value in
    let b : Bound = bound_of c.args.bound.now in
    let former : Option ViewTree = kept_at k s.watchers in
    let t : State = keeping_at k (snap_of c.args.snapshot) s in
    c.in_ok-write_bound.ensures.fired
    ∙ (ap (λ (o : Option ViewTree). bound_fired b k.path v o (begins_firing (state_of c.keep_bound.new.works))) c.in_ok-former.ensures.former
    ∙ (ap (λ (x : State). bound_fired b k.path v former (begins_firing x)) c.in_ok-former.ensures.state
    ∙ (sym (ap (λ (o : Option ViewTree). bound_site_fired o b k former t) c.in_ok-value.ensures.value)
    ∙ sym (ap (λ (o : Option Bound). site_fired_by o k (snap_of c.args.snapshot) (value_at s k) former t) c.requires.bound))))
