-- What a handler leaves of a page before its digest.
use Rattle.std.proofs.Common.{◌≡◌, ◌≤◌, ◌<◌, ◌∙◌, ℕ, Bool, true, false, List, [], ◌∷◌, length, if◌then◌else◌, ◌++◌, Option, Some, None, Result, Ok, Err, OnOk, refl, ap, sym, subst, arith}
use Rattle.std.specs.Prelude.{codes, is_err}
use Rattle.std.specs.Str.{chars}
use Rattle.serde_json.specs.Data.{Data, Members, no_members, member}
use Rattle.ng_core.proofs.Grows.{named-grows}
use Rattle.ng_core.specs.Keeping.{nothing}
use Rattle.ng_core.specs.Events.{object_value}
use Rattle.ng_act.specs.Expressions.{programmed}
use Rattle.ng_act.specs.Actions.{does}
use Rattle.ng_core.specs.Beginning.{members_in}
use Rattle.ng_core.specs.Frames.{Acts}
use Rattle.ng_act.specs.Running.{same}
use Rattle.ng_core.specs.State as act
use Rattle.ng_core.specs.State.{Run, handed, with_locals}
use Rattle.ng_base.specs.Faults.{is_memory}
use Rattle.ng_base.specs.Objects.{Object}
use Rattle.ng_base.specs.declared.fault.Fault.{Fault}
use Rattle.ng_base.specs.declared.heap.ObjKind.TheVariants as kinds
use Rattle.ng_base.specs.declared.value.Value.{Value}
use Rattle.ng_base.specs.declared.value.Value.TheVariants as value
use Rattle.ng_behaviour.specs.Scopes.{live_at}
use Rattle.ng_changes.specs.Runs.{followed}
use Rattle.ng_changes.specs.Whole.{Unless}
use Rattle.ng_language.specs.Objects.{new_object}
use Rattle.ng_language.specs.Trees.{Trees}
use Rattle.ng_link.specs.Calls.{with_core, left_at}
use Rattle.ng_link.specs.Events.{scope_of}
use Rattle.ng_link.specs.State as link
use Rattle.ng_link.specs.declared.works.Works.{Works}
use Rattle.ng_store.specs.Json.{json_value, with_json}
use Rattle.ng_write.proofs.More.{length-one_more}
use Rattle.ng_commands.specs.Handling.{Happening, Event, unmade, awaited, made, refused, ready, event_of, handler_run, handling_run, rested, handled}
use Rattle.ng_commands.specs.EventObject.{value_read, extra_set, typed_event, event_objects, event_refusal, event_made}
use Rattle.ng_commands.specs.HandlingOf.{MadeBelow}
use Rattle.ng_commands.specs.BetweenSteps.{PageIs}
use Rattle.ng_commands.specs.declared.handling.Event as code
use Rattle.ng_commands.specs.declared.handling.Event.TheVariants as events
use Rattle.ng_commands.proofs.EventsStay.{part, Stays, stays_refl, objects_stay}
use Rattle.ng_commands.proofs.ProgramsStay.{bind_stay, statements_stay}
use Rattle.ng_commands.proofs.NodeScopes.{node_scope}
use Rattle.ng_commands.proofs.Sites.{SitesStay}
use Rattle.ng_commands.proofs.StepsStay.{json_grows, value_run, changed_sites, followed_sites}

-- ---- the objects of an event stand behind the others

extra_grows : (objects : List Object) (o : ℕ) (ms : Members) → length objects ≤ length (extra_set objects o ms)
extra_grows objects o no_members = omega arith
extra_grows objects o (member k d ms) =
    let v : Value = value_read (json_value objects d) in
    let a : length objects ≤ length (with_json objects d) = json_grows objects d in
    let b : length (with_json objects d) ≤ length (extra_set objects o (member k d no_members)) = named-grows (with_json objects d) o (chars k) v in
    let c : length (extra_set objects o (member k d no_members)) ≤ length (extra_set objects o (member k d ms)) = extra_grows (extra_set objects o (member k d no_members)) o ms in
    omega arith

typed_grows : (objects : List Object) (type : List ℕ) → length objects < length (typed_event objects type)
typed_grows objects type =
    let a : length (objects ++ new_object kinds.Event None ∷ []) ≤ length (typed_event objects type) = named-grows (objects ++ new_object kinds.Event None ∷ []) (length objects) (codes "type") (value.Text type) in
    omega (arith, length-one_more objects (new_object kinds.Event None))

event_grows : (objects : List Object) (type : List ℕ) (extra : Data) → length objects < length (event_objects objects type extra)
event_grows objects type extra =
    let a : length objects < length (typed_event objects type) = typed_grows objects type in
    let b : length (typed_event objects type) ≤ length (event_objects objects type extra) = extra_grows (typed_event objects type) (length objects) (members_in extra) in
    omega arith

-- ---- what a handler's program leaves of scopes and objects

made_stays : (o : Option Fault) (type : List ℕ) (extra : Data) (c : act.State) → Stays (part c) (part (event_made o type extra c).0)
made_stays None type extra c = objects_stay (part c) (length (event_objects c.objects type extra)) (let a : length c.objects < length (event_objects c.objects type extra) = event_grows c.objects type extra in omega arith)
made_stays (Some f) type extra c = stays_refl (part c)

event_stays : (x : Happening) (e : Event) (c : act.State) → Stays (part c) (part (event_of x e c).0)
event_stays x unmade c = made_stays (event_refusal c.objects x.extra) x.type x.extra c
event_stays x (made o) c = stays_refl (part c)
event_stays x awaited c = made_stays (event_refusal c.objects x.extra) x.type x.extra c
event_stays x refused c = made_stays (event_refusal c.objects x.extra) x.type x.extra c

handler_stays : (scope o : ℕ) (p : Trees) (c : act.State) → Stays (part c) (part (handler_run scope o p c).0)
unfolding handler_run
handler_stays scope o p c =
    let d : act.State = with_locals ((codes "$event", object_value o) ∷ []) c in
    value_run c (programmed (does 64) scope p d) (statements_stay 64 scope nothing p d)

pub handling_stays : (x : Happening) (e : Event) (scope : ℕ) (p : Trees) (c : act.State) → Stays (part c) (part (handling_run x e scope p c).0)
handling_stays x e scope p c = bind_stay (part c) (event_of x e c).0 (event_of x e c).1 (λ o d. handler_run scope o p d) (event_stays x e c) (λ o d. handler_stays scope o p d)

pub handling_sites : (x : Happening) (e : Event) (scope : ℕ) (p : Trees) (s : link.State) → SitesStay s (followed (handling_run x e scope p s.core) s)
handling_sites x e scope p s = followed_sites (handling_run x e scope p s.core) s (handling_stays x e scope p s.core)

-- the scope of a node is there
pub scope_there : (w : Works) (n scope : ℕ) → scope ≡ scope_of (link.state_of w) n → PageIs w → scope < length w.core.scopes
scope_there w n scope e h = subst (λ k. k < length w.core.scopes) (sym e) (node_scope (link.state_of w) n h.watched h.works.whole.root)

-- ---- a run that was followed up wanted no memory

pub was_no_want : (end : Result Value Fault) (d : act.State) (faulted : Bool) (A : Run Value → Type 0) → ((r : Run Value) → Acts same end d r → A r × (faulted ≡ is_err r.1)) → (P : Type 0) → Unless end P → P
was_no_want (Ok v) d faulted A f P h = h
was_no_want (Err e) d faulted A f P h = by (is_memory e) refl
  where
    by : (m : Bool) → is_memory e ≡ m → P
    by false i = h i
    by true i =
        let never : (r : Run Value) → Acts same (Err e) d r = λ r g. absurd (let x : true ≡ false = sym i ∙ g in cc) in
        let no : faulted ≡ false = (f (d, Ok value.Undefined) (never (d, Ok value.Undefined))).1 in
        let yes : faulted ≡ true = (f (d, Err e) (never (d, Err e))).1 in
        absurd (let x : false ≡ true = sym no ∙ yes in cc)

-- ---- an event that was made goes on standing

pub below_still : (m n : ℕ) (e : code.Event) → m ≤ n → MadeBelow m e → MadeBelow n e
below_still m n events.Unmade l h = tt
below_still m n (events.Made o) l h = omega (arith, h)
below_still m n events.Awaited l h = tt
below_still m n events.Refused l h = tt

-- what came after a run lost no object of what the run left
pub followed_grown : (r : Run Value) (d : act.State) (s : link.State) → r.0 ≡ d → length d.objects ≤ length (followed r s).core.objects
followed_grown r d s e =
    let a : length (handed r).objects ≤ length (followed r s).core.objects = (changed_sites (with_core (handed r) s)).core.grown in
    subst (λ (x : act.State). length x.objects ≤ length (followed r s).core.objects) e (subst (λ (xs : List Object). length xs ≤ length (followed r s).core.objects) (noted r.0 r.1) a)
  where
    noted : (t : act.State) (o : Result Value Fault) → (let q : Run Value = (t, o) in handed q).objects ≡ t.objects
    noted t (Ok v) = refl
    noted t (Err f) = refl

pub rested_core : (s : link.State) → (rested s).core ≡ s.core
rested_core s = by (live_at s.core.scopes 0)
  where
    by : (b : Bool) → (if b then s else left_at [] s).core ≡ s.core
    by true = refl
    by false = refl

pub rested_grown : (n : ℕ) (m s : link.State) → s ≡ rested m → n ≤ length m.core.objects → n ≤ length s.core.objects
rested_grown n m s e l = subst (λ (c : act.State). n ≤ length c.objects) (sym (ap (λ (x : link.State). x.core) e ∙ rested_core m)) l

pub turned : (x : Happening) (e : Event) (n scope : ℕ) (p : Trees) (s t m r : link.State) → t ≡ ready e s → scope ≡ scope_of t n → m ≡ followed (handling_run x e scope p t.core) t → r ≡ rested m
    → r ≡ handled x n p (record { state = s; event = e })
turned x e n scope p s t m r i j k l =
    l ∙ (ap rested k ∙ (ap (λ (q : ℕ). rested (followed (handling_run x e q p t.core) t)) j ∙ ap (λ (u : link.State). rested (followed (handling_run x e (scope_of u n) p u.core) u)) i))

pub on_ok_both : {T E A B C : Type 0} (r : Result T E) → OnOk r A → OnOk r B → (A → B → C) → OnOk r C
on_ok_both (Ok v) a b f = f a b
on_ok_both (Err e) a b f = tt
