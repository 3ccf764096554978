-- The program of a declared watch, with the values that it gets.
use Rattle.std.specs.Prelude.{List, [], ◌∷◌, codes, Option, Some, None, Ok}
use Rattle.ng_core.specs.Keeping.{stores}
use Rattle.ng_act.specs.Asked.{a_body}
use Rattle.ng_core.specs.State as act
use Rattle.ng_core.specs.State.{Run, ◌>>=◌}
use Rattle.ng_base.specs.Views.{ViewTree}
use Rattle.ng_changes.specs.Runs.{asked_first}
use Rattle.ng_link.specs.State.{Listening}
use Rattle.ng_members.specs.Leaves.{Local}
use Rattle.ng_write.specs.Making.{value_in}

-- What `old` is: what the former snapshot holds, a list or record as a new object. Where nothing was kept it is the value.
abbrev pub former_value : Option ViewTree → ViewTree → act.State → Run ViewTree
former_value None v c = (c, Ok v)
former_value (Some f) v c = stores f c

abbrev pub listener_locals : ViewTree → ViewTree → List Local
listener_locals v o = (codes "value", value_in v) ∷ (codes "old", value_in o) ∷ []

-- the program of a declared watch runs on its scope with `value` and `old`; a fresh list or record of either is a new object
abbrev pub listener_run : Listening → Option ViewTree → ViewTree → act.State → Run ViewTree
listener_run l former v c =
    stores v c >>= λ w d. former_value former w d >>= λ o e. asked_first (a_body l.scope (listener_locals w o) l.body) e
