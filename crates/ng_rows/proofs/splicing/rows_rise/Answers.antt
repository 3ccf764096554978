use Rattle.std.proofs.Common.{◌<◌, ◌∙◌, None, Some, ap, length, refl, sym, arith}
use Rattle.ng_rows.proofs.KeysRise.{rise_more, rise_stops}
use Rattle.ng_rows.proofs.RowKeys.{key_there, row_key, row_keys, within}
use Rattle.ng_rows.specs.Splices.{next_after}
use Rattle.ng_rows.proofs.splicing.rows_rise.Goals as goal

pub returns-in-None : goal.returns-in-None
returns-in-None c =
    let bodies = c.args.bodies.now in
    let i = c.loop-body.body-index in
    let n = c.loop-body.least in
    let r = c.role.result.now in
    let less : i < length bodies = omega arith in
    let is = key_there bodies i c.body-item.result r less c.body-item.is c.role.ensures in
    sym (sym c.loop-body.invariant ∙ rise_stops (row_keys bodies) i n (row_key r) None (within bodies i less) is (c.in-None.ensures ∙ ap (next_after n) c.number_of_row.ensures) refl)

pub loop-body-preserved : goal.loop-body-preserved
loop-body-preserved c =
    let bodies = c.args.bodies.now in
    let i = c.loop-body.body-index in
    let n = c.loop-body.least in
    let r = c.role.result.now in
    let m = c.in-Some.next in
    let less : i < length bodies = omega arith in
    let is = key_there bodies i c.body-item.result r less c.body-item.is c.role.ensures in
    sym (rise_more (row_keys bodies) i n m (row_key r) (Some m) (within bodies i less) is (c.in-Some.ensures ∙ ap (next_after n) c.number_of_row.ensures) refl) ∙ c.loop-body.invariant
