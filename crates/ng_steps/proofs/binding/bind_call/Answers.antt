use Rattle.std.proofs.Common.{◌∙◌, ◌++◌, ◌∷◌, [], ℕ, ap, sym, arith}
use Rattle.std.proofs.lemmas.List.{length-map}
use Rattle.ng_base.specs.declared.value.Value.TheVariants as value
use Rattle.ng_core.specs.Frames as cores
use Rattle.ng_core.specs.Frames.{fun_of}
use Rattle.ng_core.specs.State as act
use Rattle.ng_core.specs.State.{an_outer, with_funs}
use Rattle.ng_changes.proofs.Answered.{ok_then}
use Rattle.ng_changes.proofs.Rising.{mark, rises-refl}
use Rattle.ng_changes.proofs.Wholes.{whole_left}
use Rattle.ng_steps.specs.LinkBindings.{set_on}
use Rattle.ng_language.specs.Trees.{Trees}
use Rattle.ng_link.specs.Calls.{with_core}
use Rattle.ng_link.specs.State.{State, state_of}
use Rattle.ng_parse.specs.ProgramOf.{program}
use Rattle.ng_steps.proofs.binding.bind_call.Goals as goal

-- a function more changes no scope and no number
pub set_name-requires-clause-whole : goal.set_name-requires-clause-whole
set_name-requires-clause-whole c =
    let w = c.args.works.now in
    whole_left w c.new_function.new.core _ c.requires.whole c.in_ok-id.ensures.run (rises-refl (mark (cores.state_of w.core))) c.in_ok-id.ensures.sound (c.new_function.ensures.depth ∙ c.requires.whole.idle) c.new_function.ensures.grown

pub returns-clause-state : goal.returns-clause-state
returns-clause-state c =
    let s : State = state_of c.args.works.now in
    let core = c.args.works.now.core in
    let m = cores.state_of c.new_function.new.core in
    let f = an_outer c.args.over.0 (program c.args.program.now) in
    ok_then c.set_name.result c.set_name.ensures.state
    (λ e. e
    ∙ (ap (λ (k : act.State). with_core (set_on c.args.scope.0 c.args.name.now (value.Fun c.in_ok-id.id) k) s) (c.in_ok-id.ensures.run ∙ ap (λ (t : Trees). with_funs (s.core.funs ++ an_outer c.args.over.0 t ∷ []) s.core) c.in_ok-copy.ensures)
    ∙ ap (λ (n : ℕ). with_core (set_on c.args.scope.0 c.args.name.now (value.Fun (record { 0 = n })) (with_funs (s.core.funs ++ f ∷ []) s.core)) s) (c.in_ok-id.ensures.id ∙ sym (length-map core.funs.items fun_of))))

pub set_name-requires-clause-scope : goal.set_name-requires-clause-scope
set_name-requires-clause-scope c = (let e = c.new_function.ensures.count in let lt = c.requires.scope in omega (arith, e, lt))
