use Rattle.std.proofs.Common.{◌∙◌, ℕ, List, Option, ap, length, subst, sym}
use Rattle.std.specs.Prelude.{map, option_map}
use Rattle.ng_base.specs.ViewOf.{view_of}
use Rattle.ng_base.specs.Views.{ViewTree}
use Rattle.ng_base.specs.declared.value.Value.TheVariants as value
use Rattle.ng_changes.proofs.Answered.{ok_then}
use Rattle.ng_fire.specs.Bindings.{bound_fired, text_kept}
use Rattle.ng_fire.specs.Blocks.{Firing}
use Rattle.ng_fire.specs.FireOf.{firing}
use Rattle.ng_steps.specs.LinkBindings.{set_on}
use Rattle.ng_instances.specs.Bindings.{BoundStands}
use Rattle.ng_instances.specs.BoundOf.{bound_of, piece_of}
use Rattle.ng_link.specs.Calls.{with_core}
use Rattle.ng_link.specs.State.{State}
use Rattle.ng_instances.specs.declared.instances.Bound as code
use Rattle.ng_instances.specs.declared.instances.BoundPiece.{BoundPiece}
use Rattle.ng_value.specs.Snaps.{snap_of}
use Rattle.ng_fire.proofs.bound_fires.write_bound.Goals as goal

pub set_name-requires-clause-scope : goal.set_name-requires-clause-scope
set_name-requires-clause-scope c = subst (λ (b : code.Bound). BoundStands (length c.args.works.now.core.scopes) (bound_of b)) c.in-Text.is c.requires.bound

pub write_value-requires-clause-scope : goal.write_value-requires-clause-scope
write_value-requires-clause-scope c = subst (λ (b : code.Bound). BoundStands (length c.args.works.now.core.scopes) (bound_of b)) c.in-OneWay.is c.requires.bound

pub fire_both-requires-clause-scope : goal.fire_both-requires-clause-scope
fire_both-requires-clause-scope c = (subst (λ (b : code.Bound). BoundStands (length c.args.works.now.core.scopes) (bound_of b)) c.in-TwoWay.is c.requires.bound).0

pub fire_both-requires-clause-over : goal.fire_both-requires-clause-over
fire_both-requires-clause-over c = (subst (λ (b : code.Bound). BoundStands (length c.args.works.now.core.scopes) (bound_of b)) c.in-TwoWay.is c.requires.bound).1

pub returns-in_ok-text-in-Text-clause-fired : goal.returns-in_ok-text-in-Text-clause-fired
returns-in_ok-text-in-Text-clause-fired c =
    let g : Firing = firing c.args.works.now c.args.told.now in
    let v = view_of c.args.value.now in
    let former : Option ViewTree = option_map snap_of c.args.former.now in
    ok_then c.set_name.result c.set_name.ensures.state
    (λ e. ap (λ (s : State). record g { state = s }) (e
    ∙ (ap (λ (t : List ℕ). with_core (set_on c.in-Text.scope.0 c.in-Text.name (value.Text t) g.state.core) g.state) c.in_ok-text-in-Text.ensures
    ∙ ap (λ (ps : List BoundPiece). with_core (set_on c.in-Text.scope.0 c.in-Text.name (value.Text (text_kept c.args.key.now.path (map piece_of ps) g.state)) g.state.core) g.state) c.as_slice.ensures.value))
    ∙ sym (ap (λ (b : code.Bound). bound_fired (bound_of b) c.args.key.now.path v former g) c.in-Text.is))

pub returns-in-OneWay-clause-fired : goal.returns-in-OneWay-clause-fired
returns-in-OneWay-clause-fired c =
    let g : Firing = firing c.args.works.now c.args.told.now in
    let v = view_of c.args.value.now in
    let former : Option ViewTree = option_map snap_of c.args.former.now in
    ok_then c.write_value.result c.write_value.ensures.fired (λ e. e ∙ sym (ap (λ (b : code.Bound). bound_fired (bound_of b) c.args.key.now.path v former g) c.in-OneWay.is))

pub returns-in-TwoWay-clause-fired : goal.returns-in-TwoWay-clause-fired
returns-in-TwoWay-clause-fired c =
    let g : Firing = firing c.args.works.now c.args.told.now in
    let v = view_of c.args.value.now in
    let former : Option ViewTree = option_map snap_of c.args.former.now in
    ok_then c.fire_both.result c.fire_both.ensures.fired (λ e. e ∙ sym (ap (λ (b : code.Bound). bound_fired (bound_of b) c.args.key.now.path v former g) c.in-TwoWay.is))
