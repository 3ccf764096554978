-- What a call is made on stands.
use Rattle.std.proofs.Common.{◌≡◌, ◌<◌, ◌+◌, ℕ, suc, Bool, true, false, List, [], ◌∷◌, length, Option, Some, None, refl, arith, eqb, if◌then◌else◌, bytes_eq, map}
use Rattle.std.specs.List.{AllByRecursion}
use Rattle.indexmap.specs.IndexMap.{insert_entry}
use Rattle.ng_base.specs.Objects.{Object, object_at, StandsAmong}
use Rattle.ng_base.specs.Views.{ViewTree, prim, list, rec}
use Rattle.ng_base.specs.declared.heap.ObjKind.{ObjKind}
use Rattle.ng_base.specs.declared.heap.ObjKind.TheVariants as kinds
use Rattle.ng_base.specs.declared.value.Value.{Value}
use Rattle.ng_base.specs.declared.value.Value.TheVariants as value
use Rattle.ng_behaviour.specs.Scopes.{Scope, of_object, scope_from}
use Rattle.ng_language.specs.Views.{ViewStands}
use Rattle.ng_members.specs.Leaves.{Local, LocalsStand}
use Rattle.ng_members.specs.Callees.{method_of}
use Rattle.ng_members.specs.Members.{member}
use Rattle.ng_members.specs.declared.methods.Method.{Method}
use Rattle.ng_write.specs.Assigning.{locals_after, is_local}
use Rattle.ng_write.specs.Changing.{change_named}
use Rattle.ng_write.specs.Events.{event_call_named}
use Rattle.ng_write.specs.declared.changing.Change.{Change}
use Rattle.ng_write.specs.declared.events.EventCall.{EventCall}
use Rattle.ng_write.specs.Making.{value_in}
use Rattle.ng_core.specs.Calling.{scope_method, of_method, scope_called, event_or, change_or, kind_called, value_called, method_or, plainly_called, called_on}
use Rattle.ng_core.specs.PlaceOf.{TargetStands}
use Rattle.ng_core.specs.declared.called.ScopeMethod.{ScopeMethod}
use Rattle.ng_core.specs.declared.called.Called.{Called}

from_within : (i : ℕ) (t : List Scope) (o s : ℕ) → scope_from i t o ≡ Some s → s < i + length t
from_within i [] o s h = absurd (cc)
from_within i (x ∷ t) o s h = by (eqb o x.object) h (λ q. from_within (suc i) t o s q)
  where
    by : (b : Bool) → (if b then Some i else scope_from (suc i) t o) ≡ Some s → (scope_from (suc i) t o ≡ Some s → s < suc i + length t) → s < i + length (x ∷ t)
    by true q f = let p : i ≡ s = cc in omega arith
    by false q f = let p = f q in omega arith

value_target : (n m : ℕ) (t : ViewTree) → TargetStands n m (value_called t)
value_target n m (prim value.Undefined) = tt
value_target n m (prim value.Null) = tt
value_target n m (prim (value.Bool b)) = tt
value_target n m (prim (value.Int i)) = tt
value_target n m (prim value.Nan) = tt
value_target n m (prim (value.Text t)) = tt
value_target n m (prim (value.Obj o)) = tt
value_target n m (prim (value.Fun f)) = tt
value_target n m (list ts) = tt
value_target n m (rec fs) = tt

method_target : (n m : ℕ) (o : Option Method) (c : Called) → TargetStands n m c → TargetStands n m (method_or o c)
method_target n m (Some x) c s = tt
method_target n m None c s = s

plain_target : (n m : ℕ) (objects : List Object) (t : ViewTree) (name : List ℕ) → TargetStands n m (plainly_called objects t name)
plain_target n m objects t name = method_target n m (method_of objects t name) (value_called (member objects t name)) (value_target n m (member objects t name))

event_target : (n m : ℕ) (x : Option EventCall) (o : ℕ) (c : Called) → o < n → TargetStands n m c → TargetStands n m (event_or x o c)
event_target n m (Some x) o c h s = h
event_target n m None o c h s = s

change_target : (n m : ℕ) (x : Option Change) (o : ℕ) (c : Called) → o < n → TargetStands n m c → TargetStands n m (change_or x o c)
change_target n m (Some x) o c h s = h
change_target n m None o c h s = s

kind_target : (n m : ℕ) (k : ObjKind) (o : ℕ) (name : List ℕ) (c : Called) → o < n → TargetStands n m c → TargetStands n m (kind_called k o name c)
kind_target n m kinds.Plain o name c h s = s
kind_target n m kinds.Array o name c h s = change_target n m (change_named name) o c h s
kind_target n m kinds.Scope o name c h s = s
kind_target n m kinds.Event o name c h s = event_target n m (event_call_named name) o c h s

of_target : (n m s : ℕ) (x : Option ScopeMethod) (c : Called) → s < m → TargetStands n m c → TargetStands n m (of_method s x c)
of_target n m s (Some x) c h t = h
of_target n m s None c h t = t

scope_target : (n m : ℕ) (r : Option ℕ) (name : List ℕ) (c : Called) → ((s : ℕ) → r ≡ Some s → s < m) → TargetStands n m c → TargetStands n m (scope_called r name c)
scope_target n m None name c h t = t
scope_target n m (Some s) name c h t = of_target n m s (scope_method name) c (h s refl) t

-- a call is made on an object and a scope that stand
pub target_stands : (n : ℕ) (objects : List Object) (scopes : List Scope) (t : ViewTree) (name : List ℕ) → ViewStands n t → TargetStands n (length scopes) (called_on objects scopes t name)
unfolding called_on
target_stands n objects scopes (prim value.Undefined) name h = plain_target n (length scopes) objects (prim value.Undefined) name
target_stands n objects scopes (prim value.Null) name h = plain_target n (length scopes) objects (prim value.Null) name
target_stands n objects scopes (prim (value.Bool b)) name h = plain_target n (length scopes) objects (prim (value.Bool b)) name
target_stands n objects scopes (prim (value.Int i)) name h = plain_target n (length scopes) objects (prim (value.Int i)) name
target_stands n objects scopes (prim value.Nan) name h = plain_target n (length scopes) objects (prim value.Nan) name
target_stands n objects scopes (prim (value.Text t)) name h = plain_target n (length scopes) objects (prim (value.Text t)) name
target_stands n objects scopes (prim (value.Obj o)) name h =
    scope_target n (length scopes) (of_object scopes o.0) name _ (λ s q. (let p = from_within 0 scopes o.0 s q in omega arith))
    (kind_target n (length scopes) (object_at objects o.0).kind o.0 name _ h (plain_target n (length scopes) objects (prim (value.Obj o)) name))
target_stands n objects scopes (prim (value.Fun f)) name h = plain_target n (length scopes) objects (prim (value.Fun f)) name
target_stands n objects scopes (list ts) name h = plain_target n (length scopes) objects (list ts) name
target_stands n objects scopes (rec fs) name h = plain_target n (length scopes) objects (rec fs) name

pub value_target_stands : (n m : ℕ) (t : ViewTree) → TargetStands n m (value_called t)
value_target_stands n m t = value_target n m t

insert_stands : (n : ℕ) (ls : List Local) (name : List ℕ) (v : Value) → LocalsStand n ls → StandsAmong n v → LocalsStand n (insert_entry bytes_eq ls name v)
insert_stands n [] name v a s = (s, tt)
insert_stands n (l ∷ ls) name v a s = by (bytes_eq name l.0) (insert_stands n ls name v a.1 s)
  where
    by : (b : Bool) → LocalsStand n (insert_entry bytes_eq ls name v) → LocalsStand n (if b then (l.0, v) ∷ ls else l ∷ insert_entry bytes_eq ls name v)
    by true m = (s, a.1)
    by false m = (a.0, m)

-- the locals stand after an assignment
pub after_stand : (n : ℕ) (ls : List Local) (name : List ℕ) (v : Value) → LocalsStand n ls → StandsAmong n v → LocalsStand n (locals_after ls name v)
after_stand n ls name v a s = by (is_local ls name)
  where
    by : (b : Bool) → LocalsStand n (if b then insert_entry bytes_eq ls name v else ls)
    by true = insert_stands n ls name v a s
    by false = a

pub value_stands : (n : ℕ) (t : ViewTree) → ViewStands n t → StandsAmong n (value_in t)
value_stands n (prim v) s = s
value_stands n (list ts) s = tt
value_stands n (rec fs) s = tt

-- the values of views that stand
pub values_stand : (n : ℕ) (ts : List ViewTree) → AllByRecursion (ViewStands n) ts → AllByRecursion (StandsAmong n) (map value_in ts)
values_stand n [] a = tt
values_stand n (t ∷ ts) a = (value_stands n t a.0, values_stand n ts a.1)
