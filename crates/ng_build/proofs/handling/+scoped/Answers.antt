use Rattle.std.proofs.Common.{arith}
use Rattle.ng_parts.specs.Seen.{part_of}
use Rattle.ng_build.proofs.Loops.{part_within}
use Rattle.ng_build.proofs.handling.+scoped.Goals as goal

pub enter_scopes-enter_scope-requires : goal.enter_scopes-enter_scope-requires
enter_scopes-enter_scope-requires t c =
    let h = part_within part_of c.args.parts.now c.loop-part.part-index c.part-item.result c.loop-part-test.true c.part-item.is in
    omega (arith, h, c.decreases)
