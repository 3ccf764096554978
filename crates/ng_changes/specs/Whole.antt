-- What holds of the works of a page between two calls.
use Rattle.std.specs.Prelude.{ℕ, ◌<◌, ◌≡◌, Bool, true, false, List, length, Option, Some, None, IsSome, Result, Ok, Err}
use Rattle.std.specs.List.{AllByRecursion}
use Rattle.ng_core.specs.Frames.{IsSound}
use Rattle.ng_base.specs.Faults.{is_memory}
use Rattle.ng_base.specs.Views.{ViewTree}
use Rattle.ng_base.specs.declared.fault.Fault.{Fault}
use Rattle.ng_base.specs.declared.path.Key.{Key}
use Rattle.ng_behaviour.specs.Scopes.{Scope, path_at}
use Rattle.ng_drawing.specs.Template.{Filling, body_if, on_case, for_each, by_name}
use Rattle.ng_language.specs.Views.{ViewStands}
use Rattle.ng_link.specs.Standing.{IsStanding}
use Rattle.ng_instances.specs.Bindings.{Bound, BoundStands}
use Rattle.ng_instances.specs.Instances.{OutletState, Inner, Linked, Instances, Inners, instance_path, is_site}
use Rattle.ng_link.specs.State.{Listening, Declared, state_of}
use Rattle.ng_link.specs.declared.works.Works.{Works}
use Rattle.ng_drawing.specs.Named.{Named, fragment_in}
use Rattle.ng_watch.specs.Seen.{Watcher}
use Rattle.ng_watch.specs.Table.{Table}

-- the scope of each declared watch is one of so many
abbrev pub ListenersStand : ℕ → Declared → Type 0
ListenersStand count d = AllByRecursion (λ (e : Key × Listening). e.1.scope < count) d

-- the objects of a snapshot are among so many
abbrev pub KeptStands : ℕ → Option ViewTree → Type 0
KeptStands count None = Unit {0}
KeptStands count (Some t) = ViewStands count t

-- what a declared watch has kept stands; the site of a template keeps what it shows
abbrev pub RowStands : ℕ → Bool → Option ViewTree → Type 0
RowStands count true kept = Unit {0}
RowStands count false kept = KeptStands count kept

abbrev pub RowsStand : ℕ → Inners → Instances → Table → Type 0
RowsStand count inner is t = AllByRecursion (λ (e : Key × Watcher). RowStands count (is_site inner is e.0) e.1.kept) t

-- a scope beside its own is one of the scopes, noted with its path
abbrev pub HasInner : List Scope → Inner → Type 0
HasInner scopes i = (i.scope < length scopes) × (path_at scopes i.scope ≡ i.path)

-- So are the scope round an outlet, which is one of the instance's, and those outside what its slots are given.
pub record OutletStands (scopes : List Scope) (inner : Inners) (p : List ℕ) (x : OutletState) : Type 0 where
  pub scope : x.scope < length scopes
  pub path : instance_path inner (path_at scopes x.scope) ≡ p
  pub outsides : AllByRecursion (λ (n : ℕ). n < length scopes) x.outsides

-- An instance is noted under the path of its scope, which is one of the scopes, as all are that it has to do with.
pub record HasScope (scopes : List Scope) (inners : Inners) (p : List ℕ) (l : Linked) : Type 0 where
  pub scope : l.page.scope < length scopes
  pub path : path_at scopes l.page.scope ≡ p
  pub inner : AllByRecursion (HasInner scopes) l.page.inner
  pub bounds : AllByRecursion (λ (e : ℕ × Bound). BoundStands (length scopes) e.1) l.page.bounds
  pub outlets : AllByRecursion (OutletStands scopes inners p) l.page.outlets

abbrev pub HaveScopes : List Scope → Inners → Instances → Type 0
HaveScopes scopes inner is = AllByRecursion (λ (e : List ℕ × Linked). HasScope scopes inner e.0 e.1) is

-- the body that may fill an outlet is one of its template's fragments
abbrev pub HasBody : List Named → ℕ → Filling → Type 0
HasBody all template (body_if b) = IsSome (fragment_in all template b)
HasBody all template (on_case c b) = IsSome (fragment_in all template b)
HasBody all template (for_each r b) = IsSome (fragment_in all template b)
HasBody all template (by_name b) = IsSome (fragment_in all template b)

abbrev pub HaveBodies : List Named → Instances → Type 0
HaveBodies all is = AllByRecursion (λ (e : List ℕ × Linked). AllByRecursion (λ (x : OutletState). HasBody all x.home.template.0 x.filling) e.1.page.outlets) is

pub record IsWhole (w : Works) : Type 0 where
  pub sound : IsSound w.core
  -- no body and no event is open
  pub idle : w.core.depth ≡ 0
  pub root : 0 < length w.core.scopes
  pub standing : IsStanding w
  pub listeners : ListenersStand (length w.core.scopes) (state_of w).declared
  pub kept : RowsStand (length w.core.store) (state_of w).inner (state_of w).instances (state_of w).watchers
  pub scopes : HaveScopes w.core.scopes (state_of w).inner (state_of w).instances
  pub bodies : HaveBodies (state_of w).templates (state_of w).instances

-- a call that wanted memory leaves nothing to be said
abbrev pub Unless : {A : Type 0} → Result A Fault → Type 0 → Type 0
Unless (Ok v) P = P
Unless (Err e) P = is_memory e ≡ false → P

-- a call did not want memory
abbrev pub NoWant : {A : Type 0} → Result A Fault → Type 0
NoWant (Ok v) = Unit {0}
NoWant (Err e) = is_memory e ≡ false
