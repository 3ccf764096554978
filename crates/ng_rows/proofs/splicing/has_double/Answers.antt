use Rattle.std.proofs.Common.{arith, ap, sym, ◌∙◌, ◌<◌, length}
use Rattle.ng_blocks.proofs.Doubles.{seen_before, still_all, still_differ}
use Rattle.ng_blocks.specs.Plans.{has_double}
use Rattle.ng_rows.proofs.splicing.has_double.Goals as goal

pub returns-then-not-branch : goal.returns-then-not-branch
returns-then-not-branch c =
    let items = c.as_slice-key-items.result.now in
    let less : c.loop-key.key-index < length items = omega arith in
    sym (ap has_double (sym c.as_slice-key-items.ensures)
    ∙ seen_before items c.loop-key.set.keys c.loop-key.key-index c.in_ok-copied.field-0 c.key-item.result c.in_ok-insert.field-0 c.loop-key.invariant.all less (c.in_ok-copied.ensures ∙ c.key-item.is) c.in_ok-insert.ensures.added c.if-not-branch.true)

pub loop-key-preserved : goal.loop-key-preserved
loop-key-preserved c =
    let items = c.as_slice-key-items.result.now in
    let less : c.loop-key.key-index < length items = omega arith in
    let seen = c.loop-key.set.keys in
    let now = c.insert.new.self.keys in
    let k = c.in_ok-copied.field-0 in
    let added = c.in_ok-insert.field-0 in
    record {
      all = still_all items seen now c.loop-key.key-index k c.key-item.result added c.in_ok-insert.ensures.added c.if-not-branch.false c.in_ok-insert.ensures.keys c.loop-key.invariant.all less (c.in_ok-copied.ensures ∙ c.key-item.is);
      differ = still_differ items seen now c.loop-key.key-index k c.key-item.result added c.in_ok-insert.ensures.added c.if-not-branch.false c.in_ok-insert.ensures.keys c.loop-key.invariant.differ;
    }
