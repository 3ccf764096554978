-- What is proved of sessions by their definition alone.
use Rattle.std.specs.Prelude.{◌≡◌, Bool}
use Rattle.ng_inputs.specs.Files.{Inputs}
use Rattle.ng_run.specs.Session.{Reply, Session}

-- the files of a run have at most one session, with the trace and without: what a run over them writes is determined
abbrev pub SessionIsOne : Type 0
SessionIsOne = (trace : Bool) (i : Inputs) (r q : Reply) → Session trace i r → Session trace i q → r ≡ q
