-- What an assignment writes to, and what a bare name or an index calls.
use Rattle.std.specs.Prelude.{ℕ, List, [], Option, Some, None, Result, Ok, if◌then◌else◌}
use Rattle.ng_base.specs.Objects.{Object}
use Rattle.ng_base.specs.Views.{ViewTree}
use Rattle.ng_base.specs.declared.fault.Fault.{Fault}
use Rattle.ng_behaviour.specs.Scopes.{object_at}
use Rattle.ng_language.specs.Texts.{to_text}
use Rattle.ng_members.specs.Leaves.{named}
use Rattle.ng_members.specs.Members.{has_members}
use Rattle.ng_core.specs.Calling.{scope_method, called_on, value_called}
use Rattle.ng_core.specs.State.{State, Run}
use Rattle.ng_core.specs.declared.called.Called.{Called}
use Rattle.ng_core.specs.declared.called.Called.TheVariants as calls
use Rattle.ng_core.specs.declared.called.ScopeMethod.{ScopeMethod}
use Rattle.ng_core.specs.Keeping.{assigns_name, assigns_member}

-- what an assignment writes to, once its left side is evaluated: a bare name, or a name of a value
pub data Place : Type 0 where
  bare : List ℕ → Place
  within : ViewTree → List ℕ → Place

abbrev pub assigns : ℕ → Place → ViewTree → State → Run ViewTree
assigns scope (bare name) t s = assigns_name scope name t s
assigns scope (within o name) t s = assigns_member o name t s

-- the name that an index stands for
abbrev pub index_name : List Object → ViewTree → ViewTree → Result (List ℕ) Fault
index_name objects t i = if has_members t then to_text objects i else Ok []

-- what is asked of a scope by a bare name, or else what stands under the name
abbrev pub name_called : ℕ → List ℕ → State → Called
name_called scope name s = by (scope_method name)
  where
    by : Option ScopeMethod → Called
    by (Some m) = calls.OfScope (record { 0 = scope }) m
    by None = value_called (named s.objects (object_at s.scopes scope) s.locals name)

abbrev pub item_called : State → ViewTree → List ℕ → Called
item_called s t name = if has_members t then called_on s.objects s.scopes t name else calls.Nothing
