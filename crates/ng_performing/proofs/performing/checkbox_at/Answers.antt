use Rattle.std.proofs.Common.{◌∙◌, ap, sym}
use Rattle.ng_link.specs.Events.{control_at, state_by, kind_at}
use Rattle.ng_page.specs.PageOf.{state_of}
use Rattle.ng_performing.specs.Aims.{is_checkbox, is_of_kind}
use Rattle.ng_performing.proofs.Aimed.{of_kind, of_no_kind, checkbox_kind}
use Rattle.ng_performing.proofs.performing.checkbox_at.Goals as goal

pub returns-in-None-clause-found : goal.returns-in-None-clause-found
returns-in-None-clause-found c =
    let n = c.args.node.made.0 in
    of_no_kind is_checkbox n (kind_at (state_of c.args.page.now) n) (ap (is_of_kind is_checkbox) (sym c.in-None.ensures))

pub returns-then-is_checkbox-clause-found : goal.returns-then-is_checkbox-clause-found
returns-then-is_checkbox-clause-found c =
    let n = c.args.node.made.0 in
    of_kind is_checkbox n c.in-Some.kind (kind_at (state_of c.args.page.now) n) c.in-Some.ensures (sym c.is_checkbox.ensures ∙ c.if-is_checkbox.true)

pub returns-then-is_checkbox-clause-control : goal.returns-then-is_checkbox-clause-control
returns-then-is_checkbox-clause-control c =
    let s = state_of c.args.page.now in
    checkbox_kind (state_by (control_at s c.args.node.made.0) s) c.in-Some.kind c.in-Some.ensures (sym c.is_checkbox.ensures ∙ c.if-is_checkbox.true)

pub returns-else-is_checkbox-clause-found : goal.returns-else-is_checkbox-clause-found
returns-else-is_checkbox-clause-found c =
    let n = c.args.node.made.0 in
    of_no_kind is_checkbox n (kind_at (state_of c.args.page.now) n) (ap (is_of_kind is_checkbox) (sym c.in-Some.ensures) ∙ (sym c.is_checkbox.ensures ∙ c.if-is_checkbox.false))
