use Rattle.std.proofs.Common.{◌∙◌, arith}
use Rattle.ng_watch.specs.Chunks.{joined}
use Rattle.ng_watch.proofs.Under.{drops_one_at, some_under}
use Rattle.ng_watch.proofs.edits.drop_under.Goals as goal

pub overflow_sub-left : goal.overflow_sub-left
overflow_sub-left c = some_under c.args.p.now c.loop-at.chunks.items c.deref.result.now c.in-Some.at.chunk c.in-Some.at.row c.loop-at.left c.loop-at.invariant.counted c.deref.ensures.value c.in-Some.ensures.there

pub loop-at-preserved : goal.loop-at-preserved
loop-at-preserved c =
    let one = drops_one_at c.args.p.now c.loop-at.chunks.items c.deref.result.now c.in-Some.at.chunk c.in-Some.at.row c.loop-at.left (joined c.drop_row.new.chunks.items) c.loop-at.invariant.counted c.deref.ensures.value c.in-Some.ensures.there c.drop_row.ensures in
    record { counted = one.counted; others = one.others ∙ c.loop-at.invariant.others }

pub loop-at-smaller : goal.loop-at-smaller
loop-at-smaller c =
    let some = some_under c.args.p.now c.loop-at.chunks.items c.deref.result.now c.in-Some.at.chunk c.in-Some.at.row c.loop-at.left c.loop-at.invariant.counted c.deref.ensures.value c.in-Some.ensures.there in
    omega (arith, some)
