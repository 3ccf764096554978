use Rattle.std.proofs.Common.{◌≡◌, ◌<◌, ◌∙◌, List, ℕ, Some, None, length, map, ap, sym, subst}
use Rattle.std.specs.Prelude.{option_map}
use Rattle.ng_base.specs.Objects.{StandsAmong}
use Rattle.ng_base.specs.declared.value.Value.{Value}
use Rattle.ng_control.specs.State.{typed_in}
use Rattle.ng_control.specs.Typed.{TakesText}
use Rattle.ng_core.specs.declared.core_state.Core.{Core}
use Rattle.ng_settling.specs.Inputs.{written}
use Rattle.ng_language.specs.Trees.{Trees}
use Rattle.ng_build.specs.Controls.{state_under}
use Rattle.ng_link.specs.Events.{control_at}
use Rattle.ng_build.specs.HandledOf.{control_of}
use Rattle.ng_link.specs.State.{state_of}
use Rattle.ng_parse.specs.ProgramOf.{program}
use Rattle.ng_commands.specs.Commands.{asked_run, types}
use Rattle.ng_commands.proofs.Inputs.{kind_there, none_there, no_value, read_stands, typed_by}
use Rattle.ng_commands.proofs.Ran.{control_whole, page_asked}
use Rattle.ng_commands.proofs.Handled.{scope_there, on_ok_both}
use Rattle.ng_commands.proofs.SitesRest.{on_ok}
use Rattle.ng_commands.proofs.running.type_in.Goals as goal

pub unreachable-requires : goal.unreachable-requires
unreachable-requires c =
    let s = state_of c.args.works.now in
    let none : control_at s c.args.n ≡ None = sym c.in_ok-control.ensures ∙ ap (option_map control_of) (no_value _ c.in_default.not-Some) in
    none_there TakesText s c.args.n none c.requires.control

pub take_text-requires : goal.take_text-requires
take_text-requires c =
    let s = state_of c.args.works.now in
    kind_there TakesText s c.args.n (control_of c.in-Some.control) (sym c.in_ok-control.ensures ∙ ap (option_map control_of) c.in-Some.is) c.requires.control

pub write_model-requires-clause-whole : goal.write_model-requires-clause-whole
write_model-requires-clause-whole c =
    control_whole (λ x. typed_in x c.in_ok-copied.field-0) c.in-Some.control.key c.args.works.now c.take_text.new.self c.in_ok-value.ensures.state c.take_text.ensures.core c.in_ok-value.ensures.stands c.requires.page.works.whole

pub write_model-requires-clause-scope : goal.write_model-requires-clause-scope
write_model-requires-clause-scope c =
    subst (λ (d : Core). c.scope_of-scope.result.0 < length d.scopes) (sym c.take_text.ensures.core) (scope_there c.args.works.now c.args.n c.scope_of-scope.result.0 c.scope_of-scope.ensures c.requires.page)

pub write_model-requires-clause-value : goal.write_model-requires-clause-value
write_model-requires-clause-value c =
    subst (λ (v : Value). StandsAmong (length c.take_text.new.self.core.store) v) (sym c.in_ok-value.ensures.value) (read_stands (length c.take_text.new.self.core.store) c.in_ok-copied.field-0 (state_under c.in-Some.control.key (state_of c.args.works.now).controls))

pub returns-clause-state : goal.returns-clause-state
returns-clause-state c =
    let s = state_of c.args.works.now in
    let at : control_at s c.args.n ≡ Some (control_of c.in-Some.control) = sym c.in_ok-control.ensures ∙ ap (option_map control_of) c.in-Some.is in
    on_ok c.write_model.result c.write_model.ensures.state
    (λ done. typed_by c.args.n c.scope_of-scope.result.0 (control_of c.in-Some.control) c.in_ok-value.value s (state_of c.take_text.new.self) (state_of c.write_model.new.works) at c.scope_of-scope.ensures
    (done ∙ ap (λ (ps : List Trees). written c.scope_of-scope.result.0 (control_of c.in-Some.control).writes c.in_ok-value.value ps (state_of c.take_text.new.self)) (ap (map program) c.as_slice-changes.ensures.value)) c.in_ok-copied.field-0 c.in_ok-value.ensures.value c.in_ok-value.ensures.state
    ∙ ap (λ (t : List ℕ). asked_run (types c.args.n t) s) c.in_ok-copied.ensures)

pub returns-clause-page : goal.returns-clause-page
returns-clause-page c =
    let w = c.args.works.now in
    let s = state_of w in
    let at : control_at s c.args.n ≡ Some (control_of c.in-Some.control) = sym c.in_ok-control.ensures ∙ ap (option_map control_of) c.in-Some.is in
    on_ok_both c.write_model.result c.write_model.ensures.state c.write_model.ensures.whole
    (λ done whole.
    let state = typed_by c.args.n c.scope_of-scope.result.0 (control_of c.in-Some.control) c.in_ok-value.value s (state_of c.take_text.new.self) (state_of c.write_model.new.works) at c.scope_of-scope.ensures
    (done ∙ ap (λ (ps : List Trees). written c.scope_of-scope.result.0 (control_of c.in-Some.control).writes c.in_ok-value.value ps (state_of c.take_text.new.self)) (ap (map program) c.as_slice-changes.ensures.value)) c.in_ok-copied.field-0 c.in_ok-value.ensures.value c.in_ok-value.ensures.state in
    page_asked (types c.args.n c.in_ok-copied.field-0) w c.write_model.new.works state whole (c.write_model.ensures.templates ∙ c.take_text.ensures.templates) c.requires.page)
