use Rattle.std.proofs.Common.{◌≡◌, Option, sym, subst, ◌∙◌}
use Rattle.std.specs.Prelude.{IfOk}
use Rattle.std.proofs.lemmas.Result.{on_ok_weaker}
use Rattle.ng_control.specs.State.{ControlState, typed_in}
use Rattle.ng_control.specs.Typed.{TakesText}
use Rattle.ng_build.specs.Controls.{IsOfKind, read_as}
use Rattle.ng_build.proofs.ControlSets.{changed_set}
use Rattle.ng_build.proofs.controls.type_in.Goals as goal

pub unreachable-requires : goal.unreachable-requires
unreachable-requires c = subst (IsOfKind TakesText) (sym c.in-None.ensures.value) c.requires

pub input-requires : goal.input-requires
input-requires c = subst (IsOfKind TakesText) (sym c.in-Some.ensures.value) c.requires

pub returns-clause-value : goal.returns-clause-value
returns-clause-value c =
    let F : Option ControlState → Type 0 = λ o. IfOk c.input.result (λ v. v ≡ read_as c.args.text o) in
    subst F c.in-Some.ensures.value c.input.ensures.value

pub returns-clause-taken : goal.returns-clause-taken
returns-clause-taken c =
    let new = c.input.new.self in
    on_ok_weaker c.input.result
    (λ typed. (c.get_mut.follows.holds new).0
    ∙ changed_set (λ x. typed_in x c.args.text) c.args.key.now c.args.controls.now.entries c.in-Some.control.now new (sym c.in-Some.ensures.value) typed) c.input.ensures.typed
