use Rattle.std.proofs.Common.{◌<◌, ◌∙◌, None, Some, ap, length, refl, sym, arith}
use Rattle.ng_rows.proofs.KeysRise.{rise_more, rise_stops}
use Rattle.ng_rows.specs.Splices.{next_after}
use Rattle.ng_rows.proofs.splicing.are_rising.Goals as goal

pub returns-in-None : goal.returns-in-None
returns-in-None c =
    let keys = c.args.keys.now in
    let i = c.loop-key.key-index in
    let n = c.loop-key.least in
    let k = c.key-item.result in
    let less : i < length keys = omega arith in
    sym (sym c.loop-key.invariant ∙ rise_stops keys i n k None less c.key-item.is (c.in-None.ensures ∙ ap (next_after n) c.number_of.ensures) refl)

pub loop-key-preserved : goal.loop-key-preserved
loop-key-preserved c =
    let keys = c.args.keys.now in
    let i = c.loop-key.key-index in
    let n = c.loop-key.least in
    let k = c.key-item.result in
    let less : i < length keys = omega arith in
    sym (rise_more keys i n c.in-Some.next k (Some c.in-Some.next) less c.key-item.is (c.in-Some.ensures ∙ ap (next_after n) c.number_of.ensures) refl) ∙ c.loop-key.invariant
