use Rattle.std.proofs.Common.{rules, ◌≡◌, false, length, arith, ◌∙◌, ap, subst, sym}
use Rattle.ng_base.specs.Faults.{is_memory}
use Rattle.ng_base.specs.ViewOf.{view_of}
use Rattle.ng_write.proofs.More.{view_more}
use Rattle.std.specs.Prelude.{OnOk, Result, option_map}
use Rattle.ng_base.specs.declared.fault.Fault.TheVariants.{NotAssignable}
use Rattle.ng_base.specs.declared.fault.Memory.{Memory}
use Rattle.ng_fire.specs.Bindings.{fired_with, to_parent}
use Rattle.ng_fire.specs.Blocks.{Firing, faulted_with}
use Rattle.ng_fire.specs.FireOf.{firing}
use Rattle.ng_steps.specs.LinkBindings.{written_to}
use Rattle.ng_changes.specs.declared.following.Followed.{Followed}
use Rattle.ng_fire.proofs.BoundFires.{parent_is}
use Rattle.ng_link.specs.State.{State, state_of}
use Rattle.ng_link.specs.declared.works.Works.{Works}
use Rattle.ng_parse.specs.ProgramOf.{program}
use Rattle.ng_fire.proofs.bound_fires.write_parent.Goals.{in-Ok, in-Err-Memory, in-Err+in_ok-write_value-in-Err}
use Rattle.ng_fire.proofs.bound_fires.write_parent.Goals as goal

pub write_value-requires-clause-whole : goal.write_value-requires-clause-whole
write_value-requires-clause-whole c =
    let other : is_memory c.in-Err.f ≡ false = first_of (search rules, grind arith) in
    c.in-Err.ensures.whole other

pub write_value-requires-clause-stands : goal.write_value-requires-clause-stands
write_value-requires-clause-stands c = view_more (length c.args.works.now.core.store) (length c.write_over.new.works.core.store) c.write_over.ensures.grown (view_of c.args.value.now) c.requires.value

pub returns-clause-fired : goal.returns-clause-fired
returns-clause-fired c =
    let g : Firing = firing c.args.works.now c.args.told.now in
    let m : State = state_of c.write_over.new.works in
    let v = view_of c.args.value.now in
    let p = option_map program c.args.writes.now in
    let P : Works → Followed → Type 0 = λ x f. firing x f ≡ to_parent c.args.scope.0 c.args.name.now c.args.over.0 p v (view_of c.args.own) g in
    let R : Result (Unit {0}) Memory → Type 0 = λ r. OnOk r (P c.match-write_over.works c.match-write_over.told) in
    elim c.match-write_over.branch [
      | in-Ok w ↦
          let is = parent_is c.args.scope.0 c.args.name.now c.args.over.0 p v (view_of c.args.own) g _ w.in-Ok.ensures.run in
          let done : P c.write_over.new.works c.args.told.now = ap (λ (s : State). record g { state = s }) c.write_over.ensures.rest ∙ sym is in
          subst R (sym w.result-is) (subst (λ (f : Followed). P c.match-write_over.works f) (sym w.told-is) (subst (λ (x : Works). P x c.args.told.now) (sym w.works-is) done))
      | in-Err-Memory w ↦ subst R (sym w.result-is) tt
      | in-Err+in_ok-write_value-in-Err w ↦
          let other : is_memory w.in-Err.f ≡ false = first_of (search rules, grind arith) in
          let is = parent_is c.args.scope.0 c.args.name.now c.args.over.0 p v (view_of c.args.own) g _ (w.in-Err.ensures.run other) in
          let done : P w.fault.new.works w.fault.new.told =
          w.fault.ensures.fired
          ∙ (ap (faulted_with NotAssignable) (w.in_ok-write_value-in-Err.ensures.fired ∙ ap (λ (s : State). fired_with (written_to c.args.scope.0 c.args.name.now v m.core) (record g { state = s })) c.write_over.ensures.rest)
          ∙ sym is) in
          subst R (sym w.result-is) (subst (λ (f : Followed). P c.match-write_over.works f) (sym w.told-is) (subst (λ (x : Works). P x w.fault.new.told) (sym w.works-is) done))
    ]

pub write_value-requires-clause-scope : goal.write_value-requires-clause-scope
write_value-requires-clause-scope c = (let e = c.write_over.ensures.count in let lt = c.requires.scope in omega (arith, e, lt))
