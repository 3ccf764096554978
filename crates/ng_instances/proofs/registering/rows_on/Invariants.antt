use Rattle.std.proofs.Common.{◌≡◌, ◌++◌, drop, map}
use Rattle.ng_parts.specs.FragmentOf.{fragment_of}
use Rattle.ng_instances.specs.BoundOf.{registered_of}
use Rattle.ng_instances.specs.Registering.{rows_from}
use Rattle.ng_instances.specs.RowOf.{row_of}
use Rattle.ng_instances.proofs.registering.rows_on.Given as goal

abbrev pub invariant-loop-i : goal.invariant-loop-i
invariant-loop-i l =
    let f = fragment_of l.fragment in
    let r = registered_of l.made in
    map row_of l.rows.items ++ rows_from l.core.scopes f r l.i (drop l.i l.serials) ≡ rows_from l.core.scopes f r 0 l.serials
