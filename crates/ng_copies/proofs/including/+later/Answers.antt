use Rattle.std.proofs.Common.{◌+◌, ap, arith, drop, map, sym, ◌∙◌}
use Rattle.ng_drawing.specs.Included.{later_parts}
use Rattle.ng_drawing.specs.Nodes.{nodes}
use Rattle.ng_drawing.specs.Template.{parts_from}
use Rattle.ng_parts.specs.Seen.{part_of, parts_of}
use Rattle.ng_parts.proofs.Joined.{joined}
use Rattle.ng_copies.proofs.Shifts.{part_within, later-turn, later-end}
use Rattle.ng_copies.proofs.including.+later.Goals as goal

pub later_parts-later_part-requires : goal.later_parts-later_part-requires
later_parts-later_part-requires t c =
    let h = part_within part_of c.as_slice-part-items.result.now c.loop-part.part-index c.part-item.result c.loop-part-test.true c.part-item.is in
    let e = ap nodes c.as_slice-part-items.ensures in
    omega (arith, h, e, c.decreases)

pub later_parts-loop-part-preserved : goal.later_parts-loop-part-preserved
later_parts-loop-part-preserved t c =
    ap (λ ps. joined ps (later_parts c.args.by (parts_from (map part_of (drop (c.loop-part.part-index + 1) c.as_slice-part-items.result.now))))) c.in_ok-push.ensures.ok
    ∙ (later-turn c.args.by c.as_slice-part-items.result.now c.loop-part.part-index c.part-item.result (parts_of c.loop-part.moved) (part_of c.in_ok-later.later) (omega arith) c.part-item.is c.in_ok-later.ensures
    ∙ c.loop-part.invariant)

pub later_parts-returns : goal.later_parts-returns
later_parts-returns t c =
    sym (later-end c.args.by c.as_slice-part-items.result.now c.loop-part.part-index (parts_of c.loop-part.moved) c.loop-part-test.false)
    ∙ (c.loop-part.invariant ∙ ap (later_parts c.args.by) c.as_slice-part-items.ensures)
