use Rattle.std.proofs.Common.{◌≡◌, ℕ, List, subst, map}
use Rattle.std.specs.Prelude.{IfOk}
use Rattle.ng_parts.specs.FragmentOf.{fragment_of}
use Rattle.ng_instances.specs.BoundOf.{registered_of}
use Rattle.ng_instances.specs.Registering.{rows_from}
use Rattle.ng_instances.specs.RowOf.{row_of}
use Rattle.ng_instances.proofs.registering.site_rows.Goals as goal

pub returns : goal.returns
returns c =
    let f = fragment_of c.args.fragment.now in
    let r = registered_of c.args.made.now in
    subst (λ (ss : List ℕ). IfOk c.rows_on.result (λ v. map row_of v.items ≡ rows_from c.args.core.now.scopes f r 0 ss)) c.as_slice.ensures.value c.rows_on.ensures
