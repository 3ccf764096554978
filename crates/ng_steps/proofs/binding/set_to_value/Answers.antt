use Rattle.std.proofs.Common.{◌∙◌, ap, sym, arith}
use Rattle.std.specs.Prelude.{Ok}
use Rattle.ng_base.specs.ViewOf.{view_of}
use Rattle.ng_base.specs.declared.value.Value.{Value}
use Rattle.ng_core.specs.Frames as cores
use Rattle.ng_core.specs.State as act
use Rattle.ng_core.specs.State.{Run}
use Rattle.ng_base.specs.Views.{ViewTree}
use Rattle.ng_steps.proofs.SetRuns.{set_value_is}
use Rattle.ng_steps.specs.LinkBindings.{set_on}
use Rattle.ng_link.specs.Calls.{with_core}
use Rattle.ng_link.specs.State.{State, state_of}
use Rattle.ng_parse.specs.ProgramOf.{program}
use Rattle.ng_value.specs.Snaps.{snap_of}
use Rattle.ng_steps.proofs.binding.set_to_value.Goals as goal

pub set_name-requires-clause-stands : goal.set_name-requires-clause-stands
set_name-requires-clause-stands c = c.value_in.ensures.stands _ c.in_ok-stored.ensures.stands

pub returns-clause-run : goal.returns-clause-run
returns-clause-run c =
    let s = cores.state_of c.args.works.now.core in
    let m = cores.state_of c.keep_view.new.works.core in
    let scope = c.args.scope.0 in
    let name = c.args.name.now in
    let seen = c.in_ok-seen.seen in
    set_value_is c.args.both scope name c.args.over.0 (program c.args.program.now) s m (view_of seen.0) (view_of c.in_ok-stored.stored) (snap_of seen.1) c.in_ok-seen.ensures.exact c.in_ok-stored.ensures.run
    ∙ ap (λ (k : act.State). (let r : Run ViewTree = (k, Ok (snap_of seen.1)) in r))
    (sym (ap (λ (t : State). t.core) c.in_ok-set_name.ensures.state ∙ ap (λ (v : Value). set_on scope name v m) c.value_in.ensures.value))

pub set_name-requires-clause-scope : goal.set_name-requires-clause-scope
set_name-requires-clause-scope c = (let e = c.keep_view.ensures.count in let lt = c.requires.scope in omega (arith, e, lt))

pub returns-clause-rest : goal.returns-clause-rest
returns-clause-rest c = c.set_name.ensures.rest ∙ ap (with_core (state_of c.set_name.new.works).core) c.keep_view.ensures.rest

pub returns-in_err-set_name-clause-rest : goal.returns-in_err-set_name-clause-rest
returns-in_err-set_name-clause-rest c = c.set_name.ensures.rest ∙ ap (with_core (state_of c.set_name.new.works).core) c.keep_view.ensures.rest
