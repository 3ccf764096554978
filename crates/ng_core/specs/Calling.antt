-- What a call calls: a method of a scope or of an event comes before one of an array or a text, and that before a member of
-- the same name.
use Rattle.std.specs.Prelude.{ℕ, suc, Bool, true, false, ◌||◌, List, [], ◌∷◌, ◌++◌, length, map, codes, unwrap_or, Option, Some, None, Result, Ok, Err, encode_utf8_all, if◌then◌else◌}
use Rattle.std.specs.Str.{bytes_eq}
use Rattle.ng_base.specs.Objects.{Object, object_at, own, names_of}
use Rattle.ng_base.specs.Views.{ViewTree, prim}
use Rattle.ng_base.specs.declared.fault.Fault.{Fault}
use Rattle.ng_base.specs.declared.fault.Fault.TheVariants.{Syntax, ImpureCall}
use Rattle.ng_base.specs.declared.heap.ObjKind.{ObjKind}
use Rattle.ng_base.specs.declared.heap.ObjKind.TheVariants as kinds
use Rattle.ng_base.specs.declared.value.Value.TheVariants as value
use Rattle.ng_behaviour.specs.Scopes.{Scope, of_object}
use Rattle.ng_language.specs.Trees.{Trees}
use Rattle.ng_language.specs.Lexing.{lexed}
use Rattle.ng_language.specs.Parsing.{parsed}
use Rattle.ng_language.specs.declared.syntax.Token.{Token}
use Rattle.ng_language.specs.declared.syntax.LexFault.{LexFault}
use Rattle.ng_language.specs.declared.syntax.ParseFault.{ParseFault}
use Rattle.ng_language.specs.Operators.{truthy}
use Rattle.ng_language.specs.declared.snapshots.SnapKind.{SnapKind}
use Rattle.ng_language.specs.declared.snapshots.SnapKind.TheVariants as snaps
use Rattle.ng_members.specs.Leaves.{Local}
use Rattle.ng_members.specs.Callees.{method_of}
use Rattle.ng_members.specs.Members.{member}
use Rattle.ng_members.specs.Methods.{argument}
use Rattle.ng_evaluation.specs.Purity.{all_filters_known, are_pure}
use Rattle.ng_members.specs.declared.methods.Method.{Method}
use Rattle.ng_write.specs.Making.{value_in}
use Rattle.ng_write.specs.Changing.{change_named}
use Rattle.ng_write.specs.Events.{event_call_named}
use Rattle.ng_write.specs.declared.changing.Change.{Change}
use Rattle.ng_write.specs.declared.events.EventCall.{EventCall}
use Rattle.ng_core.specs.State.{Fun, a_declared, a_taker, an_unwatcher, an_outer}
use Rattle.ng_core.specs.declared.called.ScopeMethod.{ScopeMethod}
use Rattle.ng_core.specs.declared.called.ScopeMethod.TheVariants as methods
use Rattle.ng_core.specs.declared.called.Called.{Called}
use Rattle.ng_core.specs.declared.called.Called.TheVariants as called

-- the methods that no expression may call
abbrev pub is_left_out : List ℕ → Bool
is_left_out name =
    bytes_eq name (codes "$new") || bytes_eq name (codes "$watchGroup") || bytes_eq name (codes "$applyAsync") || bytes_eq name (codes "$$postDigest")

-- the methods of scopes
abbrev pub scope_method : List ℕ → Option ScopeMethod
scope_method name =
    if bytes_eq name (codes "$on") then Some methods.On
    else (if bytes_eq name (codes "$emit") then Some methods.Emit
    else (if bytes_eq name (codes "$broadcast") then Some methods.Broadcast
    else (if bytes_eq name (codes "$destroy") then Some methods.Destroy
    else (if bytes_eq name (codes "$eval") then Some methods.Eval
    else (if bytes_eq name (codes "$apply") then Some methods.Apply
    else (if bytes_eq name (codes "$digest") then Some methods.Digest
    else (if bytes_eq name (codes "$watch") then Some methods.Watch
    else (if bytes_eq name (codes "$watchCollection") then Some methods.WatchCollection
    else (if bytes_eq name (codes "$evalAsync") then Some methods.EvalAsync
    else (if is_left_out name then Some methods.LeftOut
    else None))))))))))

abbrev pub of_method : ℕ → Option ScopeMethod → Called → Called
of_method s (Some m) c = called.OfScope (record { 0 = s }) m
of_method s None c = c

abbrev pub scope_called : Option ℕ → List ℕ → Called → Called
scope_called (Some s) name c = of_method s (scope_method name) c
scope_called None name c = c

abbrev pub event_or : Option EventCall → ℕ → Called → Called
event_or (Some m) o c = called.OfEvent (record { 0 = o }) m
event_or None o c = c

abbrev pub change_or : Option Change → ℕ → Called → Called
change_or (Some m) o c = called.OfArray (record { 0 = o }) m
change_or None o c = c

-- a method of an event object, or one that changes an array
abbrev pub kind_called : ObjKind → ℕ → List ℕ → Called → Called
kind_called kinds.Event o name c = event_or (event_call_named name) o c
kind_called kinds.Array o name c = change_or (change_named name) o c
kind_called kinds.Plain o name c = c
kind_called kinds.Scope o name c = c

-- what a value is to a call
abbrev pub value_called : ViewTree → Called
value_called (prim value.Undefined) = called.Nothing
value_called (prim value.Null) = called.Nothing
value_called (prim (value.Fun f)) = called.Function f
value_called t = called.Other

abbrev pub method_or : Option Method → Called → Called
method_or (Some m) c = called.Pure m
method_or None c = c

-- a pure method, or else what stands under the name
abbrev pub plainly_called : List Object → ViewTree → List ℕ → Called
plainly_called objects t name = method_or (method_of objects t name) (value_called (member objects t name))

abbrev pub object_called : List Object → List Scope → ℕ → List ℕ → Called → Called
object_called objects scopes o name c = scope_called (of_object scopes o) name (kind_called (object_at objects o).kind o name c)

-- what a name calls on a value
unfoldable pub called_on : List Object → List Scope → ViewTree → List ℕ → Called
called_on objects scopes (prim (value.Obj o)) name = object_called objects scopes o.0 name (plainly_called objects (prim (value.Obj o)) name)
called_on objects scopes t name = plainly_called objects t name

abbrev pub is_nothing : Called → Bool
is_nothing called.Nothing = true
is_nothing (called.Function f) = false
is_nothing (called.Pure m) = false
is_nothing (called.OfArray o m) = false
is_nothing (called.OfEvent o m) = false
is_nothing (called.OfScope s m) = false
is_nothing called.Other = false

-- the methods that a dead scope has still: `$eval` runs, and what is left out stays so
abbrev pub outlives : ScopeMethod → Bool
outlives methods.Eval = true
outlives methods.LeftOut = true
outlives methods.On = false
outlives methods.Emit = false
outlives methods.Broadcast = false
outlives methods.Destroy = false
outlives methods.Apply = false
outlives methods.Digest = false
outlives methods.Watch = false
outlives methods.WatchCollection = false
outlives methods.EvalAsync = false

abbrev pub program_or_syntax : Result Trees ParseFault → Result Trees Fault
program_or_syntax (Ok p) = if all_filters_known p then Ok p else Err Syntax
program_or_syntax (Err f) = Err Syntax

abbrev pub tokens_program : ℕ → Result (List Token × List ℕ) LexFault → Result Trees Fault
tokens_program end (Err f) = Err Syntax
tokens_program end (Ok ts) = program_or_syntax (parsed ts.0 ts.1 end)

-- the program that a text spells
unfoldable pub text_program : List ℕ → Result Trees Fault
text_program t = tokens_program (length (encode_utf8_all t)) (lexed (length (encode_utf8_all t)) t)

-- an argument that is a program: one that is missing or undefined is the empty program
abbrev pub program_given : ViewTree → Result Trees Fault
program_given (prim value.Undefined) = text_program []
program_given (prim (value.Text t)) = text_program t
program_given t = Err Syntax

abbrev pub pure_or_fault : Result Trees Fault → Result Trees Fault
pure_or_fault (Ok p) = if are_pure p then Ok p else Err ImpureCall
pure_or_fault (Err e) = Err e

-- an argument that is watched: a program, which changes nothing
abbrev pub watch_given : ViewTree → Result Trees Fault
watch_given t = pure_or_fault (program_given t)

-- what a `$watch` compares: all of the value where its third argument is truthy
abbrev pub watch_kind : ViewTree → SnapKind
watch_kind t = if truthy t then snaps.Deep else snaps.Reference

-- the parameters with the arguments of their places, the last one first: so of two equal ones the last is meant
abbrev pub bound_from : ℕ → List (List ℕ) → List ViewTree → List Local
bound_from i [] args = []
bound_from i (n ∷ ns) args = bound_from (suc i) ns args ++ (n, value_in (argument args i)) ∷ []

abbrev pub name_bound : List Object → ℕ → List ℕ → Local
name_bound objects o name = (name, unwrap_or (own objects o name) value.Undefined)

-- the own names of an object as locals, in the order of keys; what is no object gives none
abbrev pub names_bound : List Object → ViewTree → List Local
names_bound objects (prim (value.Obj o)) = map (name_bound objects o.0) (names_of (object_at objects o.0))
names_bound objects t = []

-- what a function does with its arguments: there is none; it takes the listener of its name out, or a declared watch; or it
-- opens a body on a scope, with its locals
pub data Found : Type 0 where
  no_function : Found
  takes : Found
  unwatches : ℕ → ℕ → Found
  opens : ℕ → List Local → Trees → Found

-- a declared function has its parameters as locals, and one that is bound to an outer scope the own names of its first argument
abbrev pub found_as : List Object → Fun → List ViewTree → Found
found_as objects (a_declared scope params p) args = opens scope (bound_from 0 params args) p
found_as objects a_taker args = takes
found_as objects (an_unwatcher scope serial) args = unwatches scope serial
found_as objects (an_outer scope p) args = opens scope (names_bound objects (argument args 0)) p

abbrev pub found_in : List Object → Option Fun → List ViewTree → Found
found_in objects None args = no_function
found_in objects (Some f) args = found_as objects f args
