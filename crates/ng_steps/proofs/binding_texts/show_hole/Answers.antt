use Rattle.std.proofs.Common.{◌∙◌, Bor, List, ℕ, ap, sym}
use Rattle.std.specs.Prelude.{Ok, Result, option_map}
use Rattle.ng_base.specs.declared.fault.Fault.{Fault}
use Rattle.ng_core.specs.Frames as cores
use Rattle.ng_changes.proofs.Answered.{some_is}
use Rattle.ng_steps.proofs.BoundTexts.{gives_err, hole_faults, hole_is, none_shown}
use Rattle.ng_build.specs.StepOf.{IsWatchable}
use Rattle.ng_parse.specs.ProgramOf.{program}
use Rattle.ng_parse.specs.declared.programs.Program.{Program}
use Rattle.ng_steps.proofs.binding_texts.show_hole.Goals as goal

pub shown_over-requires-clause-watchable : goal.shown_over-requires-clause-watchable
shown_over-requires-clause-watchable c = some_is (λ (q : Bor Program). IsWatchable (program q.now)) _ c.in-Some.program c.requires.watchable c.in-Some.is

pub returns-in-None : goal.returns-in-None
returns-in-None c = λ x same.
    none_shown c.args.over.0 (cores.state_of c.args.works.now.core) c.args.shown.now.items x (sym (ap (option_map (λ (p : Bor Program). program p.now)) c.in-None.is) ∙ same)

pub returns-in_ok-push-in-Some : goal.returns-in_ok-push-in-Some
returns-in_ok-push-in-Some c = λ x same.
    hole_is c.args.over.0 (cores.state_of c.args.works.now.core) c.args.shown.now.items x (program c.in-Some.program.now) c.in_ok-shown_over-in-Some.field-0 (sym (ap (option_map (λ (p : Bor Program). program p.now)) c.in-Some.is) ∙ same) c.in_ok-shown_over-in-Some.ensures
    ∙ sym (ap (λ (ts : List (List ℕ)). (let r : Result (List (List ℕ)) Fault = Ok ts in r)) c.in_ok-push-in-Some.ensures.items)

pub returns-in_err-shown_over-in-Some : goal.returns-in_err-shown_over-in-Some
returns-in_err-shown_over-in-Some c = λ x same.
    let e : Fault = c.in_err-shown_over-in-Some.field-0.0 in
    gives_err _ _ c.from_residual.result e c.from_residual.ensures.1
    (λ free. hole_faults c.args.over.0 (cores.state_of c.args.works.now.core) c.args.shown.now.items x (program c.in-Some.program.now) e (sym (ap (option_map (λ (p : Bor Program). program p.now)) c.in-Some.is) ∙ same) (c.in_err-shown_over-in-Some.ensures free))
