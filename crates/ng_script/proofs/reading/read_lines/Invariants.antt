use Rattle.std.proofs.Common.{◌≡◌, ◌+◌, ◌≤◌, [], option_map}
use Rattle.std.specs.Str.{chars}
use Rattle.ng_script.specs.Acts.{entries_of}
use Rattle.ng_script.specs.Lines.{lines_after}
use Rattle.ng_script.specs.Scripts.{commands_from}
use Rattle.ng_script.proofs.Sizes.{size_of}
use Rattle.ng_script.proofs.reading.read_lines.Given as goal

abbrev pub invariant-loop-left : goal.invariant-loop-left
invariant-loop-left l = record {
  whole : commands_from l.count (entries_of l.commands) (lines_after (option_map (λ t. chars t.now) l.left)) ≡ commands_from 0 [] (lines_after (option_map (λ t. chars t.now) l.initial.left));
  fits : l.count + size_of (option_map (λ t. chars t.now) l.left) ≤ size_of (option_map (λ t. chars t.now) l.initial.left);
}

abbrev pub decreases-loop-left : goal.decreases-loop-left
decreases-loop-left l = size_of (option_map (λ t. chars t.now) l.left)
