-- What handlers and controls of the code stand for.
use Rattle.std.specs.Prelude.{ℕ, List, map}
use Rattle.std.specs.declared.alloc.Global.{Global}
use Rattle.std.specs.declared.vec.Vec.{Vec}
use Rattle.ng_parse.specs.ProgramOf.{program}
use Rattle.ng_parts.specs.Seen.{handler_of}
use Rattle.ng_parts.specs.declared.acts.Handler.{Handler}
use Rattle.ng_build.specs.Controls.{ControlHere, Controlled}
use Rattle.ng_build.specs.Handlers.{Handled}
use Rattle.ng_build.specs.declared.controlled.ControlHere as code_control

abbrev pub handled_of : List (ℕ × Vec Handler Global) → Handled
handled_of t = map (λ e. (e.0, map handler_of e.1.items)) t

abbrev pub control_of : code_control.ControlHere → ControlHere
control_of c = record { key = c.key; kind = c.kind; writes = program c.writes; changes = map program c.changes.items }

abbrev pub controlled_of : List (ℕ × code_control.ControlHere) → Controlled
controlled_of t = map (λ e. (e.0, control_of e.1)) t
