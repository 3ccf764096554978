-- What a crate above asks of a core: a program, an event.
use Rattle.std.specs.Prelude.{ℕ, List, Ok}
use Rattle.ng_base.specs.Views.{ViewTree}
use Rattle.ng_base.specs.declared.value.Value.{Value}
use Rattle.ng_language.specs.Trees.{Trees}
use Rattle.ng_members.specs.Leaves.{Local}
use Rattle.ng_write.specs.Making.{value_in}
use Rattle.ng_act.specs.Expressions.{programmed}
use Rattle.ng_act.specs.Actions.{does}
use Rattle.ng_core.specs.State.{State, Run, ◌>>=◌, with_locals}

-- what an action gives is a value, since each fresh list and record has become an object
abbrev pub as_value_run : Run ViewTree → Run Value
as_value_run r = r >>= λ v s. (s, Ok (value_in v))

-- a program is run on a scope, where as many more bodies and events may be open, and the locals are its own
abbrev pub act_run : ℕ → ℕ → List Local → Trees → State → Run Value
act_run room scope locals p s = as_value_run (programmed (does room) scope p (with_locals locals s))

abbrev pub same : Value → Value
same v = v
