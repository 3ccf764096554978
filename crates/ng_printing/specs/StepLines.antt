-- The lines of a step, in their order.
pub use Rattle.ng_printing.specs.Left.{Step, is_well}
use Rattle.std.specs.Prelude.{ℕ, List, ◌++◌}
use Rattle.ng_drawing.specs.Drawing.{Rendered}
use Rattle.ng_markup.specs.Forest.{Forest}
use Rattle.ng_page.specs.Steps.{Outcome}
use Rattle.ng_printing.specs.Lines.{action_line, digest_line, probe_lines, last_line}

-- the lines of a step in their order, after its header: the faults of its programs, the trace, a digest that failed, the probes, the document
abbrev pub step_lines : List ℕ → Outcome → Rendered Forest → List ℕ
step_lines trace o document = action_line o.count o.first ++ trace ++ digest_line o.digest ++ probe_lines o.probed ++ last_line o.digest document

abbrev pub step_of : List ℕ → List ℕ → Outcome → Rendered Forest → Step
step_of head trace o document = record { lines = head ++ step_lines trace o document; well = is_well o.first o.digest }
