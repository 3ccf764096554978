use Rattle.std.proofs.Common.{◌<◌, length, arith, sym, ◌∙◌}
use Rattle.ng_blocks.proofs.WordSteps.{text_over}
use Rattle.ng_blocks.proofs.dividing.past_word.Goals as goal

pub returns-in_default : goal.returns-in_default
returns-in_default c =
    let less : c.loop-byte.byte-index < length c.as_bytes-byte-items.result.now = omega arith in
    sym (text_over c.as_bytes-byte-items.result.now c.loop-byte.byte-index c.loop-byte.reader less c.in_default.ensures) ∙ c.loop-byte.invariant
