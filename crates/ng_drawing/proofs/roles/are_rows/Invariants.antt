use Rattle.std.proofs.Common.{◌≡◌, map, length}
use Rattle.ng_drawing.specs.Roles.{are_rows}
use Rattle.ng_drawing.specs.RolesOf.{entries_of, role_of}
use Rattle.ng_drawing.proofs.roles.are_rows.Given as goal

abbrev pub invariant-loop-entry : goal.invariant-loop-entry
invariant-loop-entry l = are_rows (entries_of l.left) (map role_of l.right) ≡ are_rows (entries_of l.entries) (map role_of l.roles)

abbrev pub decreases-loop-entry : goal.decreases-loop-entry
decreases-loop-entry l = length l.left
