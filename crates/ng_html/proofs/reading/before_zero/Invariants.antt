use Rattle.std.proofs.Common.{◌≡◌, ◌+◌, drop}
use Rattle.ng_html.specs.Reading.{before_zero}
use Rattle.ng_html.proofs.reading.before_zero.Given as goal

abbrev pub invariant-loop-byte : goal.invariant-loop-byte
invariant-loop-byte l = (l.count ≡ l.byte-index) × (l.count + before_zero (drop l.byte-index l.bytes) ≡ before_zero l.bytes)
