use Rattle.std.proofs.Common.{Bor, ◌∙◌, ℕ, [], ◌∷◌, ap, sym, ◌<◌, List, length, subst}
use Rattle.std.specs.Prelude.{option_map}
use Rattle.ng_core.proofs.MoreScopes.{ok_and}
use Rattle.ng_core.specs.Frames as cores
use Rattle.ng_core.specs.State.{Run}
use Rattle.ng_base.specs.Views.{ViewTree}
use Rattle.ng_steps.proofs.Binds.{acts_gives, no_value_is, value_bound_is}
use Rattle.ng_steps.specs.LinkBindings.{set_to_value}
use Rattle.ng_steps.specs.Links.{Linking, registered, with_bounds}
use Rattle.ng_steps.specs.LinkingOf.{linking}
use Rattle.ng_instances.specs.Bindings.{Bound}
use Rattle.ng_instances.specs.BoundOf.{bound_of}
use Rattle.ng_instances.specs.Registering.{Registered}
use Rattle.ng_link.specs.State.{state_of}
use Rattle.ng_parse.specs.ProgramOf.{program}
use Rattle.ng_parse.specs.declared.programs.Program.{Program}
use Rattle.ng_value.specs.Snaps.{snap_of}
use Rattle.ng_behaviour.specs.Scopes.{Scope}
use Rattle.ng_build.specs.StepOf.{IsWatchable}
use Rattle.ng_changes.proofs.Answered.{some_is}
use Rattle.ng_steps.proofs.binding.bind_value.Goals as goal

pub returns-in-None-clause-bound : goal.returns-in-None-clause-bound
returns-in-None-clause-bound c = λ x same.
    let g : Linking = linking c.args.works.now c.args.done.now in
    let k : Linking = linking c.register_site.new.works c.register_site.new.done in
    let b : Bound = bound_of c.args.bound in
    let noted = ap (λ (r : Registered). record k { made = r }) c.in_ok-note.ensures.noted
    ∙ (ap (with_bounds (c.in_ok-serial.serial ∷ []) b) c.in_ok-serial.ensures.registered ∙ ap (λ (n : ℕ). with_bounds (n ∷ []) b (registered g)) c.in_ok-serial.ensures.number) in
    no_value_is c.args.both c.args.scope.0 c.args.name.now c.args.over.0 x b g _ (sym (ap (option_map (λ (p : Bor Program). program p.now)) c.in-None.is) ∙ same) noted

pub returns-in-Some-clause-bound : goal.returns-in-Some-clause-bound
returns-in-Some-clause-bound c =
    let g : Linking = linking c.args.works.now c.args.done.now in
    let w = c.register_site.new.works in
    let k : Linking = linking w c.register_site.new.done in
    let b : Bound = bound_of c.args.bound in
    let t = state_of c.set_to_value-made.new.works in
    let end = c.set_to_value-made.result in
    let p = program c.in-Some.program.now in
    let r : Run ViewTree = set_to_value c.args.both c.args.scope.0 c.args.name.now c.args.over.0 p (cores.state_of w.core) in
    let noted = ap (λ (m : Registered). record k { made = m }) c.in_ok-note.ensures.noted
    ∙ (ap (with_bounds (c.in_ok-serial.serial ∷ []) b) c.in_ok-serial.ensures.registered ∙ ap (λ (n : ℕ). with_bounds (n ∷ []) b (registered g)) c.in_ok-serial.ensures.number) in
    ok_and c.keep_value.result (c.keep_value.ensures.kept r.1 (acts_gives snap_of end t.core r c.set_to_value-made.ensures.run)) c.keep_value.ensures.free
    (λ kept free x same. value_bound_is c.args.both c.args.scope.0 c.args.name.now c.args.over.0 x b g _ _ p end t (sym (ap (option_map (λ (q : Bor Program). program q.now)) c.in-Some.is) ∙ same) noted c.set_to_value-made.ensures.run c.set_to_value-made.ensures.rest free kept)

pub set_to_value-made-requires-clause-scope : goal.set_to_value-made-requires-clause-scope
set_to_value-made-requires-clause-scope c = subst (λ (t : List Scope). c.args.scope.0 < length t) (sym c.register_site.ensures.scopes) c.requires.scope

pub set_to_value-made-requires-clause-over : goal.set_to_value-made-requires-clause-over
set_to_value-made-requires-clause-over c = subst (λ (t : List Scope). c.args.over.0 < length t) (sym c.register_site.ensures.scopes) c.requires.over

pub set_to_value-made-requires-clause-watchable : goal.set_to_value-made-requires-clause-watchable
set_to_value-made-requires-clause-watchable c = some_is (λ (q : Bor Program). IsWatchable (program q.now)) _ c.in-Some.program c.requires.watchable c.in-Some.is
