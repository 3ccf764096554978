-- What a name calls on a value, and the value of the call (guide: Expressions, "Forgiving").
use Rattle.std.specs.Prelude.{ℕ, Bool, true, false, not, List, Option, Some, None, Result, Ok, Err, if◌then◌else◌}
use Rattle.ng_base.specs.Meets.{◌>>=◌}
use Rattle.ng_base.specs.Objects.{Object}
use Rattle.ng_base.specs.Views.{ViewTree, prim, list}
use Rattle.ng_base.specs.declared.value.Value.TheVariants as value
use Rattle.ng_base.specs.declared.fault.Fault.{Fault}
use Rattle.ng_base.specs.declared.fault.Fault.TheVariants.{NotAFunction, ImpureCall}
use Rattle.ng_members.specs.Members.{member}
use Rattle.ng_members.specs.Methods.{is_list, method_value}
use Rattle.ng_members.specs.declared.methods.Method.{Method}
use Rattle.ng_members.specs.declared.calls.Callee.{Callee}
use Rattle.ng_members.specs.declared.calls.Callee.TheVariants as callees
use Rattle.ng_members.specs.Names.{list_method, text_method}

-- what is called: a method of an array, a fresh list or a text comes before a member of the same name
abbrev pub method_of : List Object → ViewTree → List ℕ → Option Method
method_of objects (prim (value.Text t)) name = text_method name
method_of objects t name = if is_list objects t then list_method name else None

abbrev pub member_callee : ViewTree → Callee
member_callee (prim value.Undefined) = callees.Nothing
member_callee (prim value.Null) = callees.Nothing
member_callee (prim (value.Fun f)) = callees.Function
member_callee t = callees.Other

abbrev pub callee_or : Option Method → Callee → Callee
callee_or (Some m) c = callees.Method m
callee_or None c = c

unfoldable pub callee : List Object → ViewTree → List ℕ → Callee
callee objects t name = callee_or (method_of objects t name) (member_callee (member objects t name))

abbrev pub is_nothing : Callee → Bool
is_nothing callees.Nothing = true
is_nothing (callees.Method m) = false
is_nothing callees.Function = false
is_nothing callees.Other = false

-- the value of a call with its arguments
unfoldable pub called_on : List Object → Callee → ViewTree → List ViewTree → Result ViewTree Fault
called_on objects (callees.Method m) t args = method_value objects m t args
called_on objects callees.Nothing t args = Ok (prim value.Undefined)
called_on objects callees.Function t args = Err ImpureCall
called_on objects callees.Other t args = Err NotAFunction

-- where nothing is called the arguments do not count, and else they are evaluated first
abbrev pub called : List Object → Callee → ViewTree → Result (List ViewTree) Fault → Result ViewTree Fault
called objects c t args = if is_nothing c then Ok (prim value.Undefined) else (args >>= λ vs. called_on objects c t vs)
