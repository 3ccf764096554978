use Rattle.std.proofs.Common.{arith}
use Rattle.ng_parts.specs.Seen.{part_of}
use Rattle.ng_build.proofs.Loops.{part_within}
use Rattle.ng_build.proofs.ordering.+ordering.Goals as goal

pub add_parts-add_part-requires : goal.add_parts-add_part-requires
add_parts-add_part-requires t c =
    let h = part_within part_of c.args.parts.now c.loop-part.part-index c.part-item.result c.loop-part-test.true c.part-item.is in
    omega (arith, h, c.decreases)
