use Rattle.std.proofs.Common.{ap, length, arith, option_map}
use Rattle.std.proofs.lemmas.Str.{encodes-chars, length-le-encodes}
use Rattle.std.specs.Str.{chars}
use Rattle.ng_script.proofs.Sizes.{size_of}
use Rattle.ng_script.proofs.reading.read_lines.Goals as goal

pub overflow_add-count : goal.overflow_add-count
overflow_add-count c =
    let size = ap (λ t. size_of (option_map (λ r. chars r.now) t)) c.in-Some.is in
    omega (arith, c.loop-left.invariant.fits, size, length-le-encodes (chars c.args.text.now), ap length (encodes-chars c.args.text.now c.utf8.text))
