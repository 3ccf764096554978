use Rattle.std.proofs.Common.{arith}
use Rattle.ng_parts.specs.Seen.{part_of}
use Rattle.ng_build.proofs.Loops.{part_within}
use Rattle.ng_build.proofs.controls.+controlled.Goals as goal

pub enter_controls-enter_part-requires : goal.enter_controls-enter_part-requires
enter_controls-enter_part-requires t c =
    let h = part_within part_of c.args.parts.now c.loop-part.part-index c.part-item.result c.loop-part-test.true c.part-item.is in
    omega (arith, h, c.decreases)
