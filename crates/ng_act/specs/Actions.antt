-- What is opened: a body on a scope, an event that goes up, and one that goes down, with room for so many more.
use Rattle.std.specs.Prelude.{ℕ, zero, suc, List, Some, Err, nat_lt, if◌then◌else◌}
use Rattle.ng_base.specs.Views.{ViewTree}
use Rattle.ng_base.specs.declared.fault.Fault.TheVariants.{Depth, CallLimit}
use Rattle.ng_language.specs.Trees.{Trees}
use Rattle.ng_members.specs.Leaves.{Local}
use Rattle.ng_core.specs.State.{State, Run, ◌>>=◌, with_locals, with_body}
use Rattle.ng_core.specs.Burying.{many}
use Rattle.ng_core.specs.Events.{announced, finished}
use Rattle.ng_act.specs.Asked.{Asked, Doing, a_body, an_emit, a_broadcast}
use Rattle.ng_act.specs.Expressions.{programmed}
use Rattle.ng_act.specs.Emitting.{visits, rises, sweeps}

-- a body on a scope, with its own locals, unless a hundred thousand were entered
abbrev pub body_run : Doing → ℕ → List Local → Trees → State → Run ViewTree
body_run go scope ls p s = if nat_lt s.entered 100000 then back s.locals (programmed go scope p (with_locals ls (with_body s))) else (s, Err CallLimit)
  where
    back : List Local → Run ViewTree → Run ViewTree
    back outer r = (with_locals outer r.0, r.1)

-- an event that goes up, and one that goes down
abbrev pub emitted : Doing → ℕ → List ℕ → List ViewTree → State → Run ViewTree
emitted go scope name args s = announced scope name args s >>= λ e t. finished e (rises (many t) go e (Some scope) t)

abbrev pub broadcasted : Doing → ℕ → List ℕ → List ViewTree → State → Run ViewTree
broadcasted go scope name args s = announced scope name args s >>= λ e t. finished e (sweeps (many t) go e scope scope (visits go e scope t))

-- what was asked, once it is opened
abbrev pub done : Doing → Asked → State → Run ViewTree
done go (a_body scope ls p) s = body_run go scope ls p s
done go (an_emit scope name args) s = emitted go scope name args s
done go (a_broadcast scope name args) s = broadcasted go scope name args s

-- what was asked, with room for so many more open bodies and events
abbrev pub does : ℕ → Doing
does zero a s = (s, Err Depth)
does (suc room) a s = done (does room) a s
