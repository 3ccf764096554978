-- The core before a digest.
use Rattle.std.specs.Prelude.{None}
use Rattle.ng_core.specs.State.{State}

-- no fault was handed over yet
abbrev pub untroubled : State → State
untroubled c = record c { handed = record { count = 0; first = None } }
