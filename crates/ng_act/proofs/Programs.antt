-- What each step keeps, every program keeps, whatever it opens.
use Rattle.std.proofs.Common.{◌≡◌, ◌<◌, ◌≤◌, ℕ, zero, suc, Bool, true, false, if◌then◌else◌, List, [], ◌∷◌, ◌++◌, length, map, drop, Option, Some, None, Result, Ok, Err, refl, arith}
use Rattle.std.specs.Prelude.{slice_get, nat_lt, codes, is_some}
use Rattle.std.specs.Str.{bytes_eq}
use Rattle.indexmap.specs.IndexMap.{insert_entry}
use Rattle.ng_base.specs.Views.{ViewTree, prim, list, rec, no_fields, views_from, fields_from}
use Rattle.ng_base.specs.declared.fault.Fault.{Fault}
use Rattle.ng_base.specs.declared.fault.Fault.TheVariants.{CallLimit, StoreFull}
use Rattle.ng_base.specs.Objects.{Object}
use Rattle.ng_base.specs.declared.value.Value.{Value}
use Rattle.ng_base.specs.declared.value.Value.TheVariants as value
use Rattle.ng_language.specs.Objects.{set_name}
use Rattle.ng_write.specs.Assigning.{member_assigned}
use Rattle.ng_write.specs.Events.{event_called}
use Rattle.ng_behaviour.specs.Listeners.{Listener, heard_at, place_of, without_listener}
use Rattle.ng_behaviour.specs.Scopes.{Scope, live_at, object_at, parent_at, path_at, next_scope}
use Rattle.ng_language.specs.declared.snapshots.SnapKind.{SnapKind}
use Rattle.ng_language.specs.declared.snapshots.SnapKind.TheVariants as snaps
use Rattle.ng_language.specs.Operators.{truthy}
use Rattle.ng_language.specs.Texts.{to_text}
use Rattle.ng_language.specs.Trees.{Tree, Trees, PairTree, Pairs, a_number, a_text, a_name, the_scope, a_constant, member_of, item_of, call_of, a_list, a_record, in_brackets, signed, combined, both_of, either_of, choice_of, assigned, filtered, no_trees, tree_then, labelled, shorthand, computed, no_pairs, pair_then}
use Rattle.ng_members.specs.Leaves.{Local, Field, named, label_name, sign_value, operator_value}
use Rattle.ng_members.specs.Members.{member, item}
use Rattle.ng_members.specs.Methods.{argument, method_value}
use Rattle.ng_write.specs.Storing.{stored}
use Rattle.ng_write.specs.Changing.{changed}
use Rattle.ng_write.specs.Making.{value_in, made_member}
use Rattle.ng_write.specs.Written.{Written}
use Rattle.ng_write.specs.declared.events.EventCall.{EventCall}
use Rattle.ng_write.specs.declared.events.EventCall.TheVariants as event_calls
use Rattle.ng_core.specs.Calling.{called_on, value_called, is_nothing, outlives, program_given, watch_given, watch_kind, Found, no_function, takes, unwatches, opens, found_in}
use Rattle.ng_core.specs.State.{written, State, Run, ◌>>=◌, given, with_objects, with_locals, with_body, with_task, with_heard, with_fault, handed, first_or, is_stopped}
use Rattle.ng_core.specs.declared.called.Called.{Called}
use Rattle.ng_core.specs.declared.called.Called.TheVariants as calls
use Rattle.ng_core.specs.declared.called.ScopeMethod.{ScopeMethod}
use Rattle.ng_core.specs.declared.called.ScopeMethod.TheVariants as methods
use Rattle.ng_core.specs.Keeping.{as_view_run, nothing, stores, stores_result, filter_result, assigns_name, makes_name, makes_member, is_missing}
use Rattle.ng_core.specs.Places.{Place, bare, within, assigns, index_name, item_called}
use Rattle.ng_core.specs.ScopeCalls.{watches, ons, listens, declares, defers, event_run}
use Rattle.ng_core.specs.Burying.{many, next_then, buried}
use Rattle.ng_core.specs.Events.{with_event, Event, announced, finished, shows_current, event_locals, object_value, ended}
use Rattle.ng_act.specs.Asked.{Doing, a_body, an_emit, a_broadcast, Asked}
use Rattle.ng_act.specs.Calls.{found_run, method_run, scope_run, runs, destroys}
use Rattle.ng_act.specs.Expressions.{acted, reached, whole_reached, left, made, acted_all, acted_pair, acted_pairs, statements, programmed}
use Rattle.ng_act.specs.Emitting.{rises, sweeps, visits, turned, takes_turn, turns, upfrom, visited, listener_at}
use Rattle.ng_act.specs.Actions.{body_run, done, does}
use Rattle.ng_core.proofs.Grows.{named-grows, stored-grows, called-grows, assigned_name-grows, assigned-grows, made-grows, changed-grows, event-grows}

-- a relation of two states that holds of each step
pub record Steps (R : State → State → Type 0) : Type 0 where
  pub same : (s : State) → R s s
  pub on : (s t u : State) → R s t → R t u → R s u
  pub count : (s t : State) → R s t → length t.scopes ≡ length s.scopes
  pub others : (s t : State) → length s.objects ≤ length t.objects → s.serial ≤ t.serial → (is_some s.handed.first ≡ true → is_some t.handed.first ≡ true) → t.scopes ≡ s.scopes → t.heard ≡ s.heard → R s t
  pub off : (s : State) (id : ℕ) → R s (with_heard (without_listener s.heard id) s)
  pub listened : (scope : ℕ) (name : List ℕ) (p : Trees) (s : State) → live_at s.scopes scope ≡ true → R s (listens scope name p s).0
  pub buried : (scope : ℕ) (s : State) → scope < length s.scopes → R s (buried scope s)

-- what opens bodies and events keeps it
abbrev pub IsKept : (State → State → Type 0) → Doing → Type 0
IsKept R go = (a : Asked) (s : State) → R s (go a s).0

live-within : (t : List Scope) (s : ℕ) → live_at t s ≡ true → s < length t
live-within [] s h = absurd (cc)
live-within (x ∷ t) zero h = omega arith
live-within (x ∷ t) (suc s) h = let z : s < length t = live-within t s h in omega arith

pub bind-kept : (R : State → State → Type 0) → Steps R → {A B : Type 0} (s t : State) (o : Result A Fault) (f : A → State → Run B) → R s t → ((v : A) (a : State) → R a (f v a).0) → R s ((t, o) >>= f).0
bind-kept R st s t (Ok v) f h k = st.on s t (f v t).0 h (k v t)
bind-kept R st s t (Err e) f h k = h

run-kept : (R : State → State → Type 0) → Steps R → {A : Type 0} (b : Bool) (s : State) (r q : Run A) → R s r.0 → R s q.0 → R s (if b then r else q).0
run-kept R st true s r q h k = h
run-kept R st false s r q h k = k

-- objects are written, and none is taken away
wrote-kept : (R : State → State → Type 0) → Steps R → (s : State) (o : List Object) → length s.objects ≤ length o → R s (with_objects o s)
wrote-kept R st s o h = st.others s (with_objects o s) h (omega arith) (λ h. h) refl refl

shown-kept : (R : State → State → Type 0) → Steps R → (e : Event) (v : Value) (s : State) → R s (shows_current e v s)
shown-kept R st e v s = wrote-kept R st s (set_name s.objects e.object (codes "currentScope") v) (named-grows s.objects e.object (codes "currentScope") v)

-- a fault that was handed over stays the first
pub some_first : (o : Option Fault) (f : Fault) → is_some (first_or o f) ≡ true
some_first None f = refl
some_first (Some e) f = refl

noted-on : (R : State → State → Type 0) → Steps R → {A : Type 0} (s t : State) (o : Result A Fault) → R s t → R s (handed (t, o))
noted-on R st s t (Ok v) k = k
noted-on R st s t (Err e) k = st.on s t (with_fault e t) k (st.others t (with_fault e t) (omega arith) (omega arith) (λ h. some_first t.handed.first e) refl refl)

noted-kept : (R : State → State → Type 0) → Steps R → {A : Type 0} (s : State) (r : Run A) → R s r.0 → R s (handed r)
noted-kept R st s r h = noted-on R st s r.0 r.1 h

turned-kept : (R : State → State → Type 0) → Steps R → (go : Doing) → IsKept R go → (e : Event) (sc : ℕ) (live : Bool) (o : Option Listener) (s : State) → R s (turned go e sc live o s)
turned-kept R st go th e sc live None s = st.same s
turned-kept R st go th e sc false (Some l) s = st.same s
turned-kept R st go th e sc true (Some l) s =
    let a = a_body sc (event_locals e) l.body in
    noted-kept R st s (go a s) (th a s)

pub turn-kept : (R : State → State → Type 0) → Steps R → (go : Doing) → IsKept R go → (e : Event) (sc i k : ℕ) (s : State) → R s (takes_turn go e sc i k s)
turn-kept R st go th e sc i k s = turned-kept R st go th e sc (live_at s.scopes sc) (listener_at s.heard i k) s

turns-kept : (R : State → State → Type 0) → Steps R → (go : Doing) → IsKept R go → (e : Event) (sc i : ℕ) (ks : List ℕ) (s : State) → R s (turns go e sc i ks s)
turns-kept R st go th e sc i [] s = st.same s
turns-kept R st go th e sc i (k ∷ ks) s =
    st.on s (takes_turn go e sc i k s) (turns go e sc i ks (takes_turn go e sc i k s)) (turn-kept R st go th e sc i k s) (turns-kept R st go th e sc i ks (takes_turn go e sc i k s))

visited-kept : (R : State → State → Type 0) → Steps R → (go : Doing) → IsKept R go → (e : Event) (sc : ℕ) (o : Option ℕ) (s : State) → R s (visited go e sc o s)
visited-kept R st go th e sc None s = st.same s
visited-kept R st go th e sc (Some i) s = turns-kept R st go th e sc i (upfrom 0 (heard_at s.heard i).last) s

pub if-kept : (R : State → State → Type 0) → Steps R → (b : Bool) (s t u : State) → R s t → R s u → R s (if b then t else u)
if-kept R st true s t u h k = h
if-kept R st false s t u h k = k

pub visits-kept : (R : State → State → Type 0) → Steps R → (go : Doing) → IsKept R go → (e : Event) (sc : ℕ) (s : State) → R s (visits go e sc s)
visits-kept R st go th e sc s =
    let t : State = shows_current e (object_value (object_at s.scopes sc)) s in
    if-kept R st (live_at s.scopes sc) s (visited go e sc (place_of s.heard sc e.name) t) s
    (st.on s t (visited go e sc (place_of s.heard sc e.name) t) (shown-kept R st e (object_value (object_at s.scopes sc)) s) (visited-kept R st go th e sc (place_of s.heard sc e.name) t)) (st.same s)

pub rises-kept : (R : State → State → Type 0) → Steps R → (k : ℕ) (go : Doing) → IsKept R go → (e : Event) (o : Option ℕ) (s : State) → R s (rises k go e o s)
rises-kept R st zero go th e o s = st.same s
rises-kept R st (suc k) go th e None s = st.same s
rises-kept R st (suc k) go th e (Some sc) s =
    let t : State = visits go e sc s in
    let u : State = rises k go e (parent_at t.scopes sc) t in
    if-kept R st (is_stopped t.stopped e.object) s t u (visits-kept R st go th e sc s)
    (st.on s t u (visits-kept R st go th e sc s) (rises-kept R st k go th e (parent_at t.scopes sc) t))

next-kept : (R : State → State → Type 0) → Steps R → (o : Option ℕ) (s : State) (f : ℕ → State) → ((sc : ℕ) → R s (f sc)) → R s (next_then o s f)
next-kept R st None s f h = st.same s
next-kept R st (Some sc) s f h = h sc

pub sweeps-kept : (R : State → State → Type 0) → Steps R → (k : ℕ) (go : Doing) → IsKept R go → (e : Event) (top last : ℕ) (s : State) → R s (sweeps k go e top last s)
sweeps-kept R st zero go th e top last s = st.same s
sweeps-kept R st (suc k) go th e top last s =
    next-kept R st (next_scope s.scopes (path_at s.scopes last) (path_at s.scopes top)) s (λ sc. sweeps k go e top sc (visits go e sc s))
    (λ sc. st.on s (visits go e sc s) (sweeps k go e top sc (visits go e sc s)) (visits-kept R st go th e sc s) (sweeps-kept R st k go th e top sc (visits go e sc s)))

pub destroys-kept : (R : State → State → Type 0) → Steps R → (go : Doing) → IsKept R go → (sc : ℕ) (s : State) → R s (destroys go sc s)
destroys-kept R st go th sc s =
    let a : Asked = a_broadcast sc (codes "$destroy") [] in
    let v : State = handed (go a s) in
    let h : R s v = noted-kept R st s (go a s) (th a s) in
    by (live_at s.scopes sc) v h (λ l. live-within s.scopes sc l)
  where
    by : (b : Bool) (v : State) → R s v → (b ≡ true → sc < length s.scopes) → R s (if b then buried sc v else s)
    by true v h w =
        let n : length v.scopes ≡ length s.scopes = st.count s v h in
        let m : sc < length s.scopes = w refl in
        st.on s v (buried sc v) h (st.buried sc v (omega arith))
    by false v h w = st.same s

as_view-kept : (R : State → State → Type 0) → Steps R → (s : State) (w : Written Value) → length s.objects ≤ length w.0 → R s (as_view_run (written w s)).0
as_view-kept R st s w h = bind-kept R st s (with_objects w.0 s) w.1 (λ v a. (a, Ok (prim v))) (wrote-kept R st s w.0 h) (λ v a. st.same a)

pub stores-kept : (R : State → State → Type 0) → Steps R → (t : ViewTree) (s : State) → R s (stores t s).0
stores-kept R st t s = as_view-kept R st s (stored s.objects t) (stored-grows s.objects t)

result-kept : (R : State → State → Type 0) → Steps R → (s : State) (o : Result ViewTree Fault) → R s (stores_result o s).0
result-kept R st s (Ok t) = stores-kept R st t s
result-kept R st s (Err e) = st.same s

assigns-kept : (R : State → State → Type 0) → Steps R → (scope : ℕ) (p : Place) (t : ViewTree) (s : State) → R s (assigns scope p t s).0
assigns-kept R st scope (bare name) t s =
    st.others s (assigns scope (bare name) t s).0 (assigned_name-grows s.objects (object_at s.scopes scope) s.locals name (value_in t)) (omega arith) (λ h. h) refl refl
assigns-kept R st scope (within o name) t s = wrote-kept R st s (member_assigned s.objects (value_in o) name (value_in t)).0 (assigned-grows s.objects (value_in o) name (value_in t))

makes_name-kept : (R : State → State → Type 0) → Steps R → (scope : ℕ) (name : List ℕ) (s : State) → R s (makes_name scope name s).0
makes_name-kept R st scope name s =
    let r : Run ViewTree = stores (rec no_fields) s in
    run-kept R st (is_missing (named s.objects (object_at s.scopes scope) s.locals name)) s (r >>= λ v t. assigns_name scope name v t) (s, Ok (named s.objects (object_at s.scopes scope) s.locals name))
    (bind-kept R st s r.0 r.1 (λ v t. assigns_name scope name v t) (stores-kept R st (rec no_fields) s) (λ v t. assigns-kept R st scope (bare name) v t))
    (st.same s)

makes_member-kept : (R : State → State → Type 0) → Steps R → (o : ViewTree) (name : List ℕ) (s : State) → R s (makes_member o name s).0
makes_member-kept R st o name s = as_view-kept R st s (made_member s.objects (value_in o) name) (made-grows s.objects (value_in o) name)

found-kept : (R : State → State → Type 0) → Steps R → (go : Doing) → IsKept R go → (f : ℕ) (o : Found) (s : State) → R s (found_run go f o s).0
found-kept R st go th f no_function s = st.same s
found-kept R st go th f takes s = st.off s f
found-kept R st go th f (unwatches scope serial) s = st.others s (found_run go f (unwatches scope serial) s).0 (omega arith) (omega arith) (λ h. h) refl refl
found-kept R st go th f (opens scope ls p) s = th (a_body scope ls p) s

given-kept : (R : State → State → Type 0) → Steps R → {A B : Type 0} (s : State) (o : Result A Fault) (f : A → State → Run B) → ((v : A) → R s (f v s).0) → R s (given s o >>= f).0
given-kept R st s (Ok v) f k = k v
given-kept R st s (Err e) f k = st.same s

ons-kept : (R : State → State → Type 0) → Steps R → (scope : ℕ) (args : List ViewTree) (s : State) → live_at s.scopes scope ≡ true → R s (ons scope args s).0
ons-kept R st scope args s live =
    given-kept R st s (to_text s.objects (argument args 0)) (λ name t. given t (program_given (argument args 1)) >>= λ p u. listens scope name p u)
    (λ name. given-kept R st s (program_given (argument args 1)) (λ p u. listens scope name p u) (λ p. st.listened scope name p s live))

declares-kept : (R : State → State → Type 0) → Steps R → (scope : ℕ) (kind : SnapKind) (args : List ViewTree) (s : State) → R s (declares scope kind args s).0
declares-kept R st scope kind args s =
    bind-kept R st s s (watch_given (argument args 0)) (λ e t. given t (program_given (argument args 1)) >>= λ p u. watches scope kind e p u) (st.same s)
    (λ e t. bind-kept R st t t (program_given (argument args 1)) (λ p u. watches scope kind e p u) (st.same t) (λ p u. st.others u (watches scope kind e p u).0 (omega arith) (omega arith) (λ h. h) refl refl))

defers-kept : (R : State → State → Type 0) → Steps R → (scope : ℕ) (args : List ViewTree) (s : State) → R s (defers scope args s).0
defers-kept R st scope args s = bind-kept R st s s (program_given (argument args 0)) (λ p t. (with_task (record { scope = scope; body = p }) t, Ok nothing)) (st.same s) (λ p t. st.others t (with_task (record { scope = scope; body = p }) t) (omega arith) (omega arith) (λ h. h) refl refl)

method-kept : (R : State → State → Type 0) → Steps R → (go : Doing) → IsKept R go → (scope : ℕ) (m : ScopeMethod) (args : List ViewTree) (s : State) → (outlives m ≡ false → live_at s.scopes scope ≡ true) → R s (method_run go scope m args s).0
method-kept R st go th scope methods.On args s live = ons-kept R st scope args s (live refl)
method-kept R st go th scope methods.Emit args s live = bind-kept R st s s (to_text s.objects (argument args 0)) (λ name t. go (an_emit scope name (drop 1 args)) t) (st.same s) (λ name t. th (an_emit scope name (drop 1 args)) t)
method-kept R st go th scope methods.Broadcast args s live = bind-kept R st s s (to_text s.objects (argument args 0)) (λ name t. go (a_broadcast scope name (drop 1 args)) t) (st.same s) (λ name t. th (a_broadcast scope name (drop 1 args)) t)
method-kept R st go th scope methods.Destroy args s live = destroys-kept R st go th scope s
method-kept R st go th scope methods.Eval args s live = bind-kept R st s s (program_given (argument args 0)) (λ p t. go (a_body scope [] p) t) (st.same s) (λ p t. th (a_body scope [] p) t)
method-kept R st go th scope methods.Apply args s live = st.same s
method-kept R st go th scope methods.Digest args s live = st.same s
method-kept R st go th scope methods.Watch args s live = declares-kept R st scope (watch_kind (argument args 2)) args s
method-kept R st go th scope methods.WatchCollection args s live = declares-kept R st scope snaps.Collection args s
method-kept R st go th scope methods.EvalAsync args s live = defers-kept R st scope args s
method-kept R st go th scope methods.LeftOut args s live = st.same s

scope-kept : (R : State → State → Type 0) → Steps R → (go : Doing) → IsKept R go → (scope : ℕ) (m : ScopeMethod) (args : List ViewTree) (s : State) → R s (scope_run go scope m args s).0
scope-kept R st go th scope m args s = by (outlives m) (live_at s.scopes scope) (method-kept R st go th scope m args s)
  where
    r : Run ViewTree
    r = method_run go scope m args s

    unmoved : Run ViewTree
    unmoved = (s, Ok nothing)

    by : (a b : Bool) → ((a ≡ false → b ≡ true) → R s r.0) → (let q : Run ViewTree = if a then r else (if b then r else unmoved) in R s q.0)
    by true b h = h (λ e. absurd (cc))
    by false true h = h (λ e. refl)
    by false false h = st.same s

event-kept : (R : State → State → Type 0) → Steps R → (e : ℕ) (m : EventCall) (s : State) → R s (event_run e m s)
event-kept R st e event_calls.StopPropagation s = st.others s (event_run e event_calls.StopPropagation s) (called-grows s.objects e event_calls.StopPropagation) (omega arith) (λ h. h) refl refl
event-kept R st e event_calls.PreventDefault s = wrote-kept R st s (event_called s.objects e event_calls.PreventDefault) (called-grows s.objects e event_calls.PreventDefault)

runs-kept : (R : State → State → Type 0) → Steps R → (go : Doing) → IsKept R go → (c : Called) (t : ViewTree) (args : List ViewTree) (s : State) → R s (runs go c t args s).0
runs-kept R st go th calls.Nothing t args s = st.same s
runs-kept R st go th calls.Other t args s = st.same s
runs-kept R st go th (calls.Function f) t args s = found-kept R st go th f.0 (found_in s.objects (slice_get s.funs f.0) args) s
runs-kept R st go th (calls.Pure m) t args s = result-kept R st s (method_value s.objects m t args)
runs-kept R st go th (calls.OfArray o m) t args s = as_view-kept R st s (changed s.objects m o.0 (map value_in args)) (changed-grows s.objects m o.0 (map value_in args))
runs-kept R st go th (calls.OfEvent e m) t args s = event-kept R st e.0 m s
runs-kept R st go th (calls.OfScope scope m) t args s = scope-kept R st go th scope.0 m args s

whole-kept : (R : State → State → Type 0) → Steps R → (whole : State → Run ViewTree) → ((s : State) → R s (whole s).0) → (s : State) → R s (whole_reached whole s).0
whole-kept R st whole wh s = bind-kept R st s (whole s).0 (whole s).1 (λ v a. (a, Ok (v, value_called v))) (wh s) (λ v a. st.same a)

mutual
  acted-kept : (R : State → State → Type 0) → Steps R → (go : Doing) → IsKept R go → (scope : ℕ) (t : Tree) (s : State) → R s (acted go scope t s).0
  acted-kept R st go th scope (a_number n) s = st.same s
  acted-kept R st go th scope (a_text t) s = st.same s
  acted-kept R st go th scope (a_name n) s = st.same s
  acted-kept R st go th scope the_scope s = st.same s
  acted-kept R st go th scope (a_constant c) s = st.same s
  acted-kept R st go th scope (member_of t n) s = bind-kept R st s (acted go scope t s).0 (acted go scope t s).1 (λ v a. (a, Ok (member a.objects v n))) (acted-kept R st go th scope t s) (λ v a. st.same a)
  acted-kept R st go th scope (item_of t i) s = bind-kept R st s (acted go scope t s).0 (acted go scope t s).1 (λ v a. acted go scope i a >>= λ w b. given b (item b.objects v w)) (acted-kept R st go th scope t s) (λ v a. bind-kept R st a (acted go scope i a).0 (acted go scope i a).1 (λ w b. given b (item b.objects v w)) (acted-kept R st go th scope i a) (λ w b. st.same b))
  acted-kept R st go th scope (call_of t ts) s = bind-kept R st s (reached go scope (acted go scope t) t s).0 (reached go scope (acted go scope t) t s).1 (λ r a. if is_nothing r.1 then (a, Ok nothing) else (acted_all go scope [] ts a >>= λ args b. runs go r.1 r.0 args b)) (reached-kept R st go th scope (acted go scope t) (acted-kept R st go th scope t) t s) (λ r a. run-kept R st (is_nothing r.1) a (a, Ok nothing) (acted_all go scope [] ts a >>= λ args b. runs go r.1 r.0 args b) (st.same a) (bind-kept R st a (acted_all go scope [] ts a).0 (acted_all go scope [] ts a).1 (λ args b. runs go r.1 r.0 args b) (all-kept R st go th scope [] ts a) (λ args b. runs-kept R st go th r.1 r.0 args b)))
  acted-kept R st go th scope (a_list ts) s = bind-kept R st s (acted_all go scope [] ts s).0 (acted_all go scope [] ts s).1 (λ vs a. stores (list (views_from vs)) a) (all-kept R st go th scope [] ts s) (λ vs a. stores-kept R st (list (views_from vs)) a)
  acted-kept R st go th scope (a_record ps) s = bind-kept R st s (acted_pairs go scope [] ps s).0 (acted_pairs go scope [] ps s).1 (λ fs a. stores (rec (fields_from fs)) a) (pairs-kept R st go th scope [] ps s) (λ fs a. stores-kept R st (rec (fields_from fs)) a)
  acted-kept R st go th scope (in_brackets t) s = acted-kept R st go th scope t s
  acted-kept R st go th scope (signed o t) s = bind-kept R st s (acted go scope t s).0 (acted go scope t s).1 (λ v a. given a (sign_value o v)) (acted-kept R st go th scope t s) (λ v a. st.same a)
  acted-kept R st go th scope (combined o l r) s = bind-kept R st s (acted go scope l s).0 (acted go scope l s).1 (λ v a. acted go scope r a >>= λ w b. given b (operator_value b.objects o v w)) (acted-kept R st go th scope l s) (λ v a. bind-kept R st a (acted go scope r a).0 (acted go scope r a).1 (λ w b. given b (operator_value b.objects o v w)) (acted-kept R st go th scope r a) (λ w b. st.same b))
  acted-kept R st go th scope (both_of l r) s = bind-kept R st s (acted go scope l s).0 (acted go scope l s).1 (λ v a. if truthy v then acted go scope r a else (a, Ok v)) (acted-kept R st go th scope l s) (λ v a. run-kept R st (truthy v) a (acted go scope r a) (a, Ok v) (acted-kept R st go th scope r a) (st.same a))
  acted-kept R st go th scope (either_of l r) s = bind-kept R st s (acted go scope l s).0 (acted go scope l s).1 (λ v a. if truthy v then (a, Ok v) else acted go scope r a) (acted-kept R st go th scope l s) (λ v a. run-kept R st (truthy v) a (a, Ok v) (acted go scope r a) (st.same a) (acted-kept R st go th scope r a))
  acted-kept R st go th scope (choice_of c l r) s = bind-kept R st s (acted go scope c s).0 (acted go scope c s).1 (λ v a. if truthy v then acted go scope l a else acted go scope r a) (acted-kept R st go th scope c s) (λ v a. run-kept R st (truthy v) a (acted go scope l a) (acted go scope r a) (acted-kept R st go th scope l a) (acted-kept R st go th scope r a))
  acted-kept R st go th scope (assigned l r) s = bind-kept R st s (left go scope l s).0 (left go scope l s).1 (λ p a. acted go scope r a >>= λ v b. assigns scope p v b) (left-kept R st go th scope l s) (λ p a. bind-kept R st a (acted go scope r a).0 (acted go scope r a).1 (λ v b. assigns scope p v b) (acted-kept R st go th scope r a) (λ v b. assigns-kept R st scope p v b))
  acted-kept R st go th scope (filtered t n ts) s = bind-kept R st s (acted go scope t s).0 (acted go scope t s).1 (λ v a. acted_all go scope [] ts a >>= λ vs b. stores_result (filter_result b.objects n v vs) b) (acted-kept R st go th scope t s) (λ v a. bind-kept R st a (acted_all go scope [] ts a).0 (acted_all go scope [] ts a).1 (λ vs b. stores_result (filter_result b.objects n v vs) b) (all-kept R st go th scope [] ts a) (λ vs b. result-kept R st b (filter_result b.objects n v vs)))

  reached-kept : (R : State → State → Type 0) → Steps R → (go : Doing) → IsKept R go → (scope : ℕ) (whole : State → Run ViewTree) → ((s : State) → R s (whole s).0) → (t : Tree) (s : State) → R s (reached go scope whole t s).0
  reached-kept R st go th scope whole wh (member_of t n) s = bind-kept R st s (acted go scope t s).0 (acted go scope t s).1 (λ v a. (a, Ok (v, called_on a.objects a.scopes v n))) (acted-kept R st go th scope t s) (λ v a. st.same a)
  reached-kept R st go th scope whole wh (item_of t i) s = bind-kept R st s (acted go scope t s).0 (acted go scope t s).1 (λ v a. acted go scope i a >>= λ w b. given b (index_name b.objects v w) >>= λ n c. (c, Ok (v, item_called c v n))) (acted-kept R st go th scope t s) (λ v a. bind-kept R st a (acted go scope i a).0 (acted go scope i a).1 (λ w b. given b (index_name b.objects v w) >>= λ n c. (c, Ok (v, item_called c v n))) (acted-kept R st go th scope i a) (λ w b. bind-kept R st b b (index_name b.objects v w) (λ n c. (c, Ok (v, item_called c v n))) (st.same b) (λ n c. st.same c)))
  reached-kept R st go th scope whole wh (a_name n) s = st.same s
  reached-kept R st go th scope whole wh (a_number n) s = whole-kept R st whole wh s
  reached-kept R st go th scope whole wh (a_text t) s = whole-kept R st whole wh s
  reached-kept R st go th scope whole wh the_scope s = whole-kept R st whole wh s
  reached-kept R st go th scope whole wh (a_constant c) s = whole-kept R st whole wh s
  reached-kept R st go th scope whole wh (call_of t ts) s = whole-kept R st whole wh s
  reached-kept R st go th scope whole wh (a_list ts) s = whole-kept R st whole wh s
  reached-kept R st go th scope whole wh (a_record ps) s = whole-kept R st whole wh s
  reached-kept R st go th scope whole wh (in_brackets t) s = whole-kept R st whole wh s
  reached-kept R st go th scope whole wh (signed o t) s = whole-kept R st whole wh s
  reached-kept R st go th scope whole wh (combined o l r) s = whole-kept R st whole wh s
  reached-kept R st go th scope whole wh (both_of l r) s = whole-kept R st whole wh s
  reached-kept R st go th scope whole wh (either_of l r) s = whole-kept R st whole wh s
  reached-kept R st go th scope whole wh (choice_of c l r) s = whole-kept R st whole wh s
  reached-kept R st go th scope whole wh (assigned l r) s = whole-kept R st whole wh s
  reached-kept R st go th scope whole wh (filtered t n ts) s = whole-kept R st whole wh s

  left-kept : (R : State → State → Type 0) → Steps R → (go : Doing) → IsKept R go → (scope : ℕ) (t : Tree) (s : State) → R s (left go scope t s).0
  left-kept R st go th scope (a_name n) s = st.same s
  left-kept R st go th scope (member_of t n) s = bind-kept R st s (made go scope (acted go scope t) t s).0 (made go scope (acted go scope t) t s).1 (λ v a. (a, Ok (within v n))) (made-kept R st go th scope (acted go scope t) (acted-kept R st go th scope t) t s) (λ v a. st.same a)
  left-kept R st go th scope (item_of t i) s = bind-kept R st s (made go scope (acted go scope t) t s).0 (made go scope (acted go scope t) t s).1 (λ v a. acted go scope i a >>= λ w b. given b (index_name b.objects v w) >>= λ n c. (c, Ok (within v n))) (made-kept R st go th scope (acted go scope t) (acted-kept R st go th scope t) t s) (λ v a. bind-kept R st a (acted go scope i a).0 (acted go scope i a).1 (λ w b. given b (index_name b.objects v w) >>= λ n c. (c, Ok (within v n))) (acted-kept R st go th scope i a) (λ w b. bind-kept R st b b (index_name b.objects v w) (λ n c. (c, Ok (within v n))) (st.same b) (λ n c. st.same c)))
  left-kept R st go th scope (a_number n) s = st.same s
  left-kept R st go th scope (a_text t) s = st.same s
  left-kept R st go th scope the_scope s = st.same s
  left-kept R st go th scope (a_constant c) s = st.same s
  left-kept R st go th scope (call_of t ts) s = st.same s
  left-kept R st go th scope (a_list ts) s = st.same s
  left-kept R st go th scope (a_record ps) s = st.same s
  left-kept R st go th scope (in_brackets t) s = st.same s
  left-kept R st go th scope (signed o t) s = st.same s
  left-kept R st go th scope (combined o l r) s = st.same s
  left-kept R st go th scope (both_of l r) s = st.same s
  left-kept R st go th scope (either_of l r) s = st.same s
  left-kept R st go th scope (choice_of c l r) s = st.same s
  left-kept R st go th scope (assigned l r) s = st.same s
  left-kept R st go th scope (filtered t n ts) s = st.same s

  made-kept : (R : State → State → Type 0) → Steps R → (go : Doing) → IsKept R go → (scope : ℕ) (whole : State → Run ViewTree) → ((s : State) → R s (whole s).0) → (t : Tree) (s : State) → R s (made go scope whole t s).0
  made-kept R st go th scope whole wh (a_name n) s = makes_name-kept R st scope n s
  made-kept R st go th scope whole wh (member_of t n) s = bind-kept R st s (made go scope (acted go scope t) t s).0 (made go scope (acted go scope t) t s).1 (λ v a. makes_member v n a) (made-kept R st go th scope (acted go scope t) (acted-kept R st go th scope t) t s) (λ v a. makes_member-kept R st v n a)
  made-kept R st go th scope whole wh (item_of t i) s = bind-kept R st s (made go scope (acted go scope t) t s).0 (made go scope (acted go scope t) t s).1 (λ v a. acted go scope i a >>= λ w b. given b (index_name b.objects v w) >>= λ n c. makes_member v n c) (made-kept R st go th scope (acted go scope t) (acted-kept R st go th scope t) t s) (λ v a. bind-kept R st a (acted go scope i a).0 (acted go scope i a).1 (λ w b. given b (index_name b.objects v w) >>= λ n c. makes_member v n c) (acted-kept R st go th scope i a) (λ w b. bind-kept R st b b (index_name b.objects v w) (λ n c. makes_member v n c) (st.same b) (λ n c. makes_member-kept R st v n c)))
  made-kept R st go th scope whole wh (a_number n) s = wh s
  made-kept R st go th scope whole wh (a_text t) s = wh s
  made-kept R st go th scope whole wh the_scope s = wh s
  made-kept R st go th scope whole wh (a_constant c) s = wh s
  made-kept R st go th scope whole wh (call_of t ts) s = wh s
  made-kept R st go th scope whole wh (a_list ts) s = wh s
  made-kept R st go th scope whole wh (a_record ps) s = wh s
  made-kept R st go th scope whole wh (in_brackets t) s = wh s
  made-kept R st go th scope whole wh (signed o t) s = wh s
  made-kept R st go th scope whole wh (combined o l r) s = wh s
  made-kept R st go th scope whole wh (both_of l r) s = wh s
  made-kept R st go th scope whole wh (either_of l r) s = wh s
  made-kept R st go th scope whole wh (choice_of c l r) s = wh s
  made-kept R st go th scope whole wh (assigned l r) s = wh s
  made-kept R st go th scope whole wh (filtered t n ts) s = wh s

  all-kept : (R : State → State → Type 0) → Steps R → (go : Doing) → IsKept R go → (scope : ℕ) (done : List ViewTree) (ts : Trees) (s : State) → R s (acted_all go scope done ts s).0
  all-kept R st go th scope done no_trees s = st.same s
  all-kept R st go th scope done (tree_then t ts) s = bind-kept R st s (acted go scope t s).0 (acted go scope t s).1 (λ v a. acted_all go scope (done ++ v ∷ []) ts a) (acted-kept R st go th scope t s) (λ v a. all-kept R st go th scope (done ++ v ∷ []) ts a)

  pair-kept : (R : State → State → Type 0) → Steps R → (go : Doing) → IsKept R go → (scope : ℕ) (p : PairTree) (s : State) → R s (acted_pair go scope p s).0
  pair-kept R st go th scope (labelled l t) s = bind-kept R st s (acted go scope t s).0 (acted go scope t s).1 (λ v a. (a, Ok (label_name l, v))) (acted-kept R st go th scope t s) (λ v a. st.same a)
  pair-kept R st go th scope (shorthand n t) s = bind-kept R st s (acted go scope t s).0 (acted go scope t s).1 (λ v a. (a, Ok (n, v))) (acted-kept R st go th scope t s) (λ v a. st.same a)
  pair-kept R st go th scope (computed i t) s = bind-kept R st s (acted go scope i s).0 (acted go scope i s).1 (λ w a. given a (to_text a.objects w) >>= λ n b. acted go scope t b >>= λ v c. (c, Ok (n, v))) (acted-kept R st go th scope i s) (λ w a. bind-kept R st a a (to_text a.objects w) (λ n b. acted go scope t b >>= λ v c. (c, Ok (n, v))) (st.same a) (λ n b. bind-kept R st b (acted go scope t b).0 (acted go scope t b).1 (λ v c. (c, Ok (n, v))) (acted-kept R st go th scope t b) (λ v c. st.same c)))

  pairs-kept : (R : State → State → Type 0) → Steps R → (go : Doing) → IsKept R go → (scope : ℕ) (done : List Field) (ps : Pairs) (s : State) → R s (acted_pairs go scope done ps s).0
  pairs-kept R st go th scope done no_pairs s = st.same s
  pairs-kept R st go th scope done (pair_then p ps) s = bind-kept R st s (acted_pair go scope p s).0 (acted_pair go scope p s).1 (λ f a. acted_pairs go scope (insert_entry bytes_eq done f.0 f.1) ps a) (pair-kept R st go th scope p s) (λ f a. pairs-kept R st go th scope (insert_entry bytes_eq done f.0 f.1) ps a)

pub statements-kept : (R : State → State → Type 0) → Steps R → (go : Doing) → IsKept R go → (scope : ℕ) (v : ViewTree) (ts : Trees) (s : State) → R s (statements go scope v ts s).0
statements-kept R st go th scope v no_trees s = st.same s
statements-kept R st go th scope v (tree_then t ts) s = bind-kept R st s (acted go scope t s).0 (acted go scope t s).1 (λ w a. statements go scope w ts a) (acted-kept R st go th scope t s) (λ w a. statements-kept R st go th scope w ts a)

body-kept : (R : State → State → Type 0) → Steps R → (go : Doing) → IsKept R go → (scope : ℕ) (ls : List Local) (p : Trees) (s : State) → R s (body_run go scope ls p s).0
body-kept R st go th scope ls p s = entered (nat_lt s.entered 100000)
  where
    inner : State
    inner = with_locals ls (with_body s)

    ran : Run ViewTree
    ran = (with_locals s.locals (programmed go scope p inner).0, (programmed go scope p inner).1)

    stopped : Run ViewTree
    stopped = (s, Err CallLimit)

    entered : (b : Bool) → (let r : Run ViewTree = if b then ran else stopped in R s r.0)
    entered true =
        let t : State = (programmed go scope p inner).0 in
        st.on s t (with_locals s.locals t)
        (st.on s inner t (st.others s inner (omega arith) (omega arith) (λ h. h) refl refl) (statements-kept R st go th scope nothing p inner))
        (st.others t (with_locals s.locals t) (omega arith) (omega arith) (λ h. h) refl refl)
    entered false = st.same s

announced-kept : (R : State → State → Type 0) → Steps R → (scope : ℕ) (name : List ℕ) (args : List ViewTree) (s : State) → R s (announced scope name args s).0
announced-kept R st scope name args s =
    let o : List Object = with_event s.objects (object_at s.scopes scope) name in
    let t : State = with_objects o s in
    let r : Run ViewTree = stores (list (views_from args)) t in
    let f : ViewTree → State → Run Event = λ v u. (u, Ok (record { object = length s.objects; args = v; name = name })) in
    run-kept R st (nat_lt (length s.objects) 999999) s (r >>= f) (s, Err StoreFull)
    (bind-kept R st s r.0 r.1 f (st.on s t r.0 (wrote-kept R st s o (event-grows s.objects (object_at s.scopes scope) name)) (stores-kept R st (list (views_from args)) t)) (λ v u. st.same u))
    (st.same s)

finished-kept : (R : State → State → Type 0) → Steps R → (e : Event) (s : State) → R s (finished e s).0
finished-kept R st e s = st.others s (ended e s) (named-grows s.objects e.object (codes "currentScope") value.Null) (omega arith) (λ h. h) refl refl

pub does-kept : (R : State → State → Type 0) → Steps R → (room : ℕ) → IsKept R (does room)
does-kept R st zero a s = st.same s
does-kept R st (suc room) (a_body scope ls p) s = body-kept R st (does room) (does-kept R st room) scope ls p s
does-kept R st (suc room) (an_emit scope name args) s =
    let r : Run Event = announced scope name args s in
    bind-kept R st s r.0 r.1 (λ e t. finished e (rises (many t) (does room) e (Some scope) t)) (announced-kept R st scope name args s)
    (λ e t.
    let u : State = rises (many t) (does room) e (Some scope) t in
    st.on t u (ended e u) (rises-kept R st (many t) (does room) (does-kept R st room) e (Some scope) t) (finished-kept R st e u))
does-kept R st (suc room) (a_broadcast scope name args) s =
    let r : Run Event = announced scope name args s in
    bind-kept R st s r.0 r.1 (λ e t. finished e (sweeps (many t) (does room) e scope scope (visits (does room) e scope t))) (announced-kept R st scope name args s)
    (λ e t.
    let v : State = visits (does room) e scope t in
    let u : State = sweeps (many t) (does room) e scope scope v in
    st.on t v (ended e u) (visits-kept R st (does room) (does-kept R st room) e scope t)
    (st.on v u (ended e u) (sweeps-kept R st (many t) (does room) (does-kept R st room) e scope scope v) (finished-kept R st e u)))
