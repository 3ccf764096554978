use Rattle.std.proofs.Common.{rules, ◌≡◌, ◌∙◌, ℕ, List, false, ap, length, sym, arith}
use Rattle.ng_base.specs.Faults.{is_memory}
use Rattle.ng_base.specs.ViewOf.{view_of}
use Rattle.ng_base.specs.declared.value.Value.{Value}
use Rattle.ng_core.specs.Frames as cores
use Rattle.ng_core.specs.State.{Run}
use Rattle.ng_changes.proofs.Answered.{ok_then}
use Rattle.ng_fire.proofs.BoundFires.{written_is, written_not}
use Rattle.ng_fire.specs.Bindings.{fired_with}
use Rattle.ng_fire.specs.Blocks.{Firing, faulted_with}
use Rattle.ng_fire.specs.FireOf.{firing}
use Rattle.ng_steps.specs.LinkBindings.{set_on}
use Rattle.ng_link.specs.Calls.{with_core}
use Rattle.ng_link.specs.State.{State, state_of}
use Rattle.ng_write.specs.Making.{value_in}
use Rattle.ng_fire.proofs.bound_fires.write_value.Goals as goal

pub set_name-requires-clause-stands : goal.set_name-requires-clause-stands
set_name-requires-clause-stands c = c.value_in.ensures.stands _ c.in-Ok.ensures.stands

pub fault-requires : goal.fault-requires
fault-requires c =
    let other : is_memory c.in-Err.f ≡ false = first_of (search rules, grind arith) in
    record { whole = c.in-Err.ensures.whole other }

pub returns-in-Ok-clause-fired : goal.returns-in-Ok-clause-fired
returns-in-Ok-clause-fired c =
    let w = c.args.works.now in
    let g : Firing = firing w c.args.told.now in
    let m : State = state_of c.keep_view.new.works in
    let scope : ℕ = c.args.scope.0 in
    let name : List ℕ = c.args.name.now in
    let v = view_of c.args.value.now in
    let is = written_is scope name v (view_of c.in-Ok.stored) (cores.state_of w.core) m.core c.in-Ok.ensures.run in
    ok_then c.set_name.result c.set_name.ensures.state
    (λ e. ap (λ (s : State). record g { state = s })
    (e ∙ (ap (λ (x : Value). with_core (set_on scope name x m.core) m) c.value_in.ensures.value
    ∙ ap (λ (s : State). (let t : State = with_core (set_on scope name (value_in (view_of c.in-Ok.stored)) m.core) s in t)) c.keep_view.ensures.rest))
    ∙ sym (ap (λ (r : Run (Unit {0})). fired_with r g) is))

pub returns-in-Err-clause-fired : goal.returns-in-Err-clause-fired
returns-in-Err-clause-fired c =
    let w = c.args.works.now in
    let g : Firing = firing w c.args.told.now in
    let m : State = state_of c.keep_view.new.works in
    let other : is_memory c.in-Err.f ≡ false = first_of (search rules, grind arith) in
    let is = written_not c.args.scope.0 c.args.name.now (view_of c.args.value.now) (cores.state_of w.core) m.core c.in-Err.f (c.in-Err.ensures.run other) in
    c.fault.ensures.fired ∙ (ap (λ (s : State). faulted_with c.in-Err.f (record g { state = s })) c.keep_view.ensures.rest ∙ sym (ap (λ (r : Run (Unit {0})). fired_with r g) is))

pub set_name-requires-clause-scope : goal.set_name-requires-clause-scope
set_name-requires-clause-scope c = (let e = c.keep_view.ensures.count in let lt = c.requires.scope in omega (arith, e, lt))

pub returns-in-Err-clause-scopes : goal.returns-in-Err-clause-scopes
returns-in-Err-clause-scopes c = ap (λ (g : Firing). length g.state.core.scopes) c.fault.ensures.fired ∙ c.keep_view.ensures.count
