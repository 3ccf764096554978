-- What is installed and registered on the root scope before its program runs.
use Rattle.std.specs.Prelude.{List, [], ◌∷◌, ◌++◌, length}
use Rattle.ng_core.specs.ScopeCalls.{listens, watches}
use Rattle.ng_core.specs.State.{State, a_declared, with_funs, with_objects}
use Rattle.ng_base.specs.declared.value.Value.TheVariants as value
use Rattle.ng_behaviour.specs.Scopes.{object_at}
use Rattle.ng_language.specs.Objects.{set_name}
use Rattle.ng_app.specs.App.{Facts}
use Rattle.ng_app.specs.Programs.{Declared, Watched, Heard}

-- a function stands under its name, whatever that is, and runs on the root scope
abbrev pub installs : Declared → State → State
installs f s =
    with_funs (s.funs ++ a_declared 0 f.params f.body ∷ [])
    (with_objects (set_name s.objects (object_at s.scopes 0) f.name (value.Fun (record { 0 = length s.funs }))) s)

-- a watch, as `$watch` declares it, and a listener, as `$on` registers it
abbrev pub declares : Watched → State → State
declares w s = (watches 0 w.kind w.watched w.body s).0

abbrev pub registers : Heard → State → State
registers l s = (listens 0 l.name l.body s).0

abbrev pub installs_all : List Declared → State → State
installs_all [] s = s
installs_all (f ∷ fs) s = installs_all fs (installs f s)

abbrev pub declares_all : List Watched → State → State
declares_all [] s = s
declares_all (w ∷ ws) s = declares_all ws (declares w s)

abbrev pub registers_all : List Heard → State → State
registers_all [] s = s
registers_all (l ∷ ls) s = registers_all ls (registers l s)

-- the functions, then the watches, then the listeners
abbrev pub installed : Facts → State
installed f = registers_all f.listeners (declares_all f.watches (installs_all f.functions f.core))
