use Rattle.std.proofs.Common.{List, ap, length, arith}
use Rattle.ng_blocks.specs.declared.keys.TrackKey.{TrackKey}
use Rattle.ng_rows.proofs.splicing.plan_spliced.Goals as goal

pub came-requires : goal.came-requires
came-requires c =
    let entries = ap (λ (l : List TrackKey). length l) c.as_slice-entries.ensures in
    omega (arith, entries, c.if-bodies-entries.true)

pub went-requires : goal.went-requires
went-requires c =
    let entries = ap (λ (l : List TrackKey). length l) c.as_slice-entries.ensures in
    omega (arith, entries, c.if-bodies-entries.false)
