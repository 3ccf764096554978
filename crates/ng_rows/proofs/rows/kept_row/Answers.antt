use Rattle.std.proofs.Common.{◌≡◌, ◌∙◌, ap, sym, true}
use Rattle.ng_drawing.specs.RolesOf.{entry_of, role_of}
use Rattle.ng_drawing.specs.declared.roles.Role as code_role
use Rattle.ng_rows.proofs.SameRoles.{row_is}
use Rattle.ng_rows.specs.RepeatRows.{same_row}
use Rattle.ng_instances.specs.declared.instances.Body as code
use Rattle.ng_rows.proofs.rows.kept_row.Goals as goal

pub returns-in_ok-copied-clause-role : goal.returns-in_ok-copied-clause-role
returns-in_ok-copied-clause-role c =
    let row = c.args.row.now in
    let body = c.args.body.now in
    let e = entry_of row.item.now.entry in
    let same : same_row row.key.now e (role_of body.role) ≡ true =
    ap (λ (r : code_role.Role). same_row row.key.now e (role_of r)) (sym c.role.ensures) ∙ (sym c.is_row.ensures ∙ c.if-is_row.true) in
    ap (λ (b : code.Body). role_of b.role) c.in_ok-copied.ensures ∙ row_is row.key.now e (role_of body.role) same
