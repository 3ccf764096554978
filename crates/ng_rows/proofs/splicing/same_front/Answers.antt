use Rattle.std.proofs.Common.{◌≡◌, ◌<◌, ◌≤◌, ◌∙◌, ℕ, ap, length, sym, take, arith}
use Rattle.ng_rows.proofs.RowKeys.{key_there, row_key, row_keys, within}
use Rattle.ng_rows.proofs.Spliced.{front_more}
use Rattle.ng_rows.proofs.splicing.same_front.Goals as goal

pub loop-i-preserved : goal.loop-i-preserved
loop-i-preserved c =
    let bodies = c.args.bodies.now in
    let keys = c.args.keys.now in
    let i = c.loop-i.i in
    let r = c.role.result.now in
    let k = c.index-keys-i.result in
    let in_bodies : i < length bodies = omega (arith, c.loop-i-test.true, c.requires.bodies) in
    let in_keys : i < length keys = omega (arith, c.loop-i-test.true, c.requires.keys) in
    front_more (row_keys bodies) keys i (row_key r) k (within bodies i in_bodies) in_keys
    (key_there bodies i c.index-bodies-i.result r in_bodies c.index-bodies-i.is c.role.ensures) c.index-keys-i.is (c.has_key.ensures.0 c.if-not-has_key.false) c.loop-i.invariant
