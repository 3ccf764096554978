-- What is written into the objects: fresh values, names and members that are assigned (guide: Expressions).
use Rattle.std.specs.Prelude.{ℕ, Bool, true, false, List, length, Result, Ok, Err, if◌then◌else◌}
use Rattle.ng_base.specs.Objects.{Object}
use Rattle.ng_base.specs.Views.{ViewTree, prim, rec, no_fields, views_from}
use Rattle.ng_base.specs.declared.fault.Fault.{Fault}
use Rattle.ng_base.specs.declared.fault.Fault.TheVariants.{Syntax}
use Rattle.ng_base.specs.declared.value.Value.{Value}
use Rattle.ng_base.specs.declared.value.Value.TheVariants as value
use Rattle.ng_behaviour.specs.Scopes.{object_at}
use Rattle.ng_evaluation.specs.Applied.{known, applied}
use Rattle.ng_members.specs.Leaves.{named}
use Rattle.ng_write.specs.Assigning.{name_assigned, locals_after, member_assigned}
use Rattle.ng_write.specs.Making.{value_in, made_member}
use Rattle.ng_write.specs.Storing.{stored}
use Rattle.ng_write.specs.Written.{Written}
use Rattle.ng_core.specs.State.{State, Run, ◌>>=◌, with_objects, with_locals, written}

abbrev pub nothing : ViewTree
nothing = prim value.Undefined

-- a value that was written is a view
abbrev pub as_view_run : Run Value → Run ViewTree
as_view_run r = r >>= λ v s. (s, Ok (prim v))

-- a fresh list or record becomes a new object where it arises
abbrev pub stores : ViewTree → State → Run ViewTree
stores t s = as_view_run (written (stored s.objects t) s)

-- what a filter or a method without effects gives
abbrev pub stores_result : Result ViewTree Fault → State → Run ViewTree
stores_result (Ok t) s = stores t s
stores_result (Err e) s = (s, Err e)

-- a filter that isn't there is no program's: programs that name one are refused before they run
abbrev pub filter_result : List Object → List ℕ → ViewTree → List ViewTree → Result ViewTree Fault
filter_result objects name t args = if known name (length args) then applied objects name t (views_from args) else Err Syntax

-- the value that was assigned, once it is
abbrev pub and_give : ViewTree → Result (Unit {0}) Fault → Result ViewTree Fault
and_give t (Ok u) = Ok t
and_give t (Err e) = Err e

-- a bare name is written on the locals where these have it, else on the scope itself
abbrev pub assigns_name : ℕ → List ℕ → ViewTree → State → Run ViewTree
assigns_name scope name t s = by (name_assigned s.objects (object_at s.scopes scope) s.locals name (value_in t))
  where
    by : Written (Unit {0}) → Run ViewTree
    by w = (with_locals (locals_after s.locals name (value_in t)) (with_objects w.0 s), and_give t w.1)

abbrev pub assigns_member : ViewTree → List ℕ → ViewTree → State → Run ViewTree
assigns_member o name t s = by (member_assigned s.objects (value_in o) name (value_in t))
  where
    by : Written (Unit {0}) → Run ViewTree
    by w = (with_objects w.0 s, and_give t w.1)

abbrev pub is_missing : ViewTree → Bool
is_missing (prim value.Undefined) = true
is_missing (prim value.Null) = true
is_missing t = false

-- a name along the left of an assignment: where it is undefined or null it is made an empty object
abbrev pub makes_name : ℕ → List ℕ → State → Run ViewTree
makes_name scope name s =
    if is_missing (named s.objects (object_at s.scopes scope) s.locals name)
    then (stores (rec no_fields) s >>= λ v t. assigns_name scope name v t)
    else (s, Ok (named s.objects (object_at s.scopes scope) s.locals name))

abbrev pub makes_member : ViewTree → List ℕ → State → Run ViewTree
makes_member o name s = as_view_run (written (made_member s.objects (value_in o) name) s)
