use Rattle.std.proofs.Common.{◌≡◌, ◌++◌, drop}
use Rattle.ng_printing.specs.Lines.{probe_lines}
use Rattle.ng_printing.proofs.lines.probes.Given as goal

abbrev pub invariant-loop-text : goal.invariant-loop-text
invariant-loop-text l = l.bytes.items ++ probe_lines (drop l.text-index l.list) ≡ probe_lines l.list
