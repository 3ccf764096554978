use Rattle.std.proofs.Common.{sym, subst, ◌∙◌}
use Rattle.ng_control.specs.State.{checked_in}
use Rattle.ng_control.specs.Typed.{IsCheckbox}
use Rattle.ng_build.specs.Controls.{IsOfKind}
use Rattle.ng_build.proofs.ControlSets.{changed_set}
use Rattle.ng_build.proofs.controls.check_in.Goals as goal

pub unreachable-requires : goal.unreachable-requires
unreachable-requires c = subst (IsOfKind IsCheckbox) (sym c.in-None.ensures.value) c.requires

pub check-requires : goal.check-requires
check-requires c = subst (IsOfKind IsCheckbox) (sym c.in-Some.ensures.value) c.requires

pub returns-clause-taken : goal.returns-clause-taken
returns-clause-taken c =
    let new = c.check.new.self in
    (c.get_mut.follows.holds new).0 ∙ changed_set checked_in c.args.key.now c.args.controls.now.entries c.in-Some.control.now new (sym c.in-Some.ensures.value) c.check.ensures.checked
