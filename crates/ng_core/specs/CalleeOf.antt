-- What a function of the code does, as the definitions have it.
use Rattle.std.specs.Prelude.{ℕ, ◌<◌}
use Rattle.ng_parse.specs.ProgramOf.{program}
use Rattle.ng_members.specs.Leaves.{LocalsStand}
use Rattle.ng_core.specs.Calling.{Found, no_function, takes, unwatches, opens}
use Rattle.ng_core.specs.declared.callees.Callee.{Callee}
use Rattle.ng_core.specs.declared.callees.Callee.TheVariants as callees

abbrev pub found_of : Callee → Found
found_of callees.None = no_function
found_of callees.Taker = takes
found_of (callees.Unwatcher scope serial) = unwatches scope.0 serial.0
found_of (callees.Body scope locals p) = opens scope.0 locals (program p)

abbrev pub CalleeStands : ℕ → ℕ → Callee → Type 0
CalleeStands n m callees.None = Unit {0}
CalleeStands n m callees.Taker = Unit {0}
CalleeStands n m (callees.Unwatcher scope serial) = scope.0 < m
CalleeStands n m (callees.Body scope locals p) = (scope.0 < m) × LocalsStand n locals
