use Rattle.std.proofs.Common.{◌≡◌, ◌<◌, ◌-◌, ◌+◌, ◌∙◌, ℕ, ap, drop, length, arith}
use Rattle.ng_rows.proofs.RowKeys.{count, key_there, row_key, row_keys, within}
use Rattle.ng_rows.proofs.Spliced.{end_more, no_end}
use Rattle.ng_rows.proofs.splicing.is_end.Goals as goal

pub loop-behind-init : goal.loop-behind-init
loop-behind-init c =
    let bodies = c.args.bodies.now in
    let keys = c.args.keys.now in
    let all : length bodies - 0 ≡ length (row_keys bodies) = omega (arith, count bodies) in
    let last : length keys ≡ length keys - 0 = omega arith in
    ap (λ (n : ℕ). drop n (row_keys bodies)) all ∙ (no_end (row_keys bodies) keys ∙ ap (λ (n : ℕ). drop n keys) last)

pub loop-behind-preserved : goal.loop-behind-preserved
loop-behind-preserved c =
    let bodies = c.args.bodies.now in
    let keys = c.args.keys.now in
    let n = c.loop-behind.behind in
    let i = length bodies - 1 - n in
    let j = length keys - 1 - n in
    let r = c.role.result.now in
    let k = c.index-keys-j.result in
    let in_bodies : i < length bodies = omega (arith, c.loop-behind-test.true, c.requires.bodies) in
    let in_keys : j < length keys = omega (arith, c.loop-behind-test.true, c.requires.keys) in
    let behind : drop (i + 1) (row_keys bodies) ≡ drop (j + 1) keys =
    ap (λ (m : ℕ). drop m (row_keys bodies)) (omega (arith, c.loop-behind-test.true, c.requires.bodies))
    ∙ (c.loop-behind.invariant ∙ ap (λ (m : ℕ). drop m keys) (omega (arith, c.loop-behind-test.true, c.requires.keys))) in
    ap (λ (m : ℕ). drop m (row_keys bodies)) (omega arith)
    ∙ (end_more (row_keys bodies) keys i j (row_key r) k (within bodies i in_bodies) in_keys (key_there bodies i c.index-bodies-i.result r in_bodies c.index-bodies-i.is c.role.ensures) c.index-keys-j.is (c.has_key.ensures.0 c.if-not-has_key.false) behind
    ∙ ap (λ (m : ℕ). drop m keys) (omega arith))
