use Rattle.std.proofs.Common.{◌≡◌, ◌<◌, ◌+◌, ◌++◌, ℕ, List, ap, sym, ◌∙◌, drop, get_or, length, map, arith}
use Rattle.ng_drawing.specs.Template.{SiteScopes}
use Rattle.ng_parts.specs.FragmentOf.{fragment_of}
use Rattle.ng_instances.specs.BoundOf.{ground_of, registered_of}
use Rattle.ng_instances.specs.Registering.{Ground, mark_at, row_on, row_at, rows_from}
use Rattle.ng_instances.specs.RowOf.{row_of}
use Rattle.ng_instances.specs.Rows.{Row}
use Rattle.ng_instances.specs.declared.placing.Row as code
use Rattle.ng_build.proofs.Loops.{got_or, next_item, pushed}
use Rattle.ng_instances.proofs.registering.rows_on.Goals as goal

pub loop-i-preserved : goal.loop-i-preserved
loop-i-preserved c =
    let scopes = c.args.core.now.scopes in
    let f = fragment_of c.args.fragment.now in
    let g = ground_of c.args.ground.now in
    let r = registered_of c.args.made.now in
    let ss = c.args.serials.now in
    let i = c.loop-i.i in
    let lt : i < length ss = omega arith in
    let n : ℕ = get_or ss i 0 in
    let made : List code.Row = c.loop-i.rows.items in
    let x : code.Row = c.in_ok-site_row.field-0 in
    let rest : List Row = rows_from scopes f r (i + 1) (drop (i + 1) ss) in
    let is : row_of x ≡ row_at scopes f r i n =
    c.in_ok-site_row.ensures ∙ (ap (λ (m : SiteScopes). row_on scopes g m r i n) c.mark.ensures ∙ ap (λ (h : Ground). row_on scopes h (mark_at f i) r i n) c.requires.same) in
    ap (λ (rs : List code.Row). map row_of rs ++ rest) c.in_ok-push.ensures.items
    ∙ (pushed row_of made x (row_at scopes f r i n) rest is
    ∙ (sym (ap (λ (ns : List ℕ). map row_of made ++ rows_from scopes f r i ns) (next_item ss i n lt (got_or ss i 0 lt))) ∙ c.loop-i.invariant))
