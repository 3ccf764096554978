use Rattle.std.proofs.Common.{ap, arith}
use Rattle.ng_drawing.specs.Nodes.{nodes}
use Rattle.ng_parts.specs.Seen.{part_of}
use Rattle.ng_copies.proofs.Shifts.{part_within}
use Rattle.ng_compose.proofs.directed.+directed.Goals as goal

pub is_directed-is_directed_part-requires : goal.is_directed-is_directed_part-requires
is_directed-is_directed_part-requires t c =
    let h = part_within part_of c.as_slice-part-items.result.now c.loop-part.part-index c.part-item.result c.loop-part-test.true c.part-item.is in
    let e = ap nodes c.as_slice-part-items.ensures in
    omega (arith, h, e, c.decreases)
