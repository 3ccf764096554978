-- What holds of the works of a page holds after the calls on them.
use Rattle.std.proofs.Common.{◌≡◌, ◌∙◌, ◌≤◌, ◌<◌, ℕ, Bool, true, false, List, [], ◌∷◌, length, Some, None, refl, sym, ap, subst, if◌then◌else◌, arith}
use Rattle.std.specs.Prelude.{not, Result, Ok, Err}
use Rattle.std.specs.List.{AllByRecursion}
use Rattle.ng_core.specs.Frames as cores
use Rattle.ng_core.specs.Frames.{Acts, IsSound, ChangeStands}
use Rattle.ng_act.specs.Running.{as_value_run, same}
use Rattle.ng_core.specs.State as act
use Rattle.ng_core.specs.State.{Change, Run, adds, removes, leaves, handed}
use Rattle.ng_core.specs.declared.core_state.Core.{Core}
use Rattle.ng_base.specs.Views.{ViewTree}
use Rattle.ng_base.specs.declared.fault.Fault.{Fault}
use Rattle.ng_base.specs.declared.path.Key.{Key}
use Rattle.ng_base.specs.declared.value.Value.{Value}
use Rattle.ng_behaviour.specs.Scopes.{Scope, path_at}
use Rattle.ng_dom.specs.Drawing.{Stands}
use Rattle.ng_changes.proofs.Rising.{mark, Rises}
use Rattle.ng_changes.proofs.Entries.{all_filtered, all_removed, all_inserted, listeners_more, rows_more, rows_watched, rows_keeping, rows_unset}
use Rattle.ng_changes.proofs.Runs.{value_run_state}
use Rattle.ng_changes.proofs.ScopePaths.{AreMore, more_count, more_path, more_same, paths_of, same_count}
use Rattle.ng_changes.specs.Changes.{applied, applied_all, changed, without_changes, key_in, watching_in, listening_in}
use Rattle.ng_changes.specs.Runs.{followed}
use Rattle.ng_changes.specs.Whole.{HasInner, HaveBodies, HaveScopes, IsWhole, ListenersStand, OutletStands, RowStands, RowsStand, Unless}
use Rattle.ng_link.proofs.Same.{core_stands}
use Rattle.ng_link.specs.Calls.{with_core, keeping_at, is_drawn, unset_at, declared_at, undeclared_at, left_at, ended_at}
use Rattle.ng_instances.specs.Bindings.{Bound, Bounds, BoundStands, bound_both, bound_in, bound_text}
use Rattle.ng_instances.specs.Instances.{Inner, Inners, Instances, OutletState, instance_path, is_site}
use Rattle.ng_link.specs.State.{State, Listening, state_of}
use Rattle.ng_link.specs.Standing.{IsStanding, Standing}
use Rattle.ng_link.specs.declared.works.Works.{Works}
use Rattle.ng_watch.specs.Ended.{is_over}
use Rattle.ng_behaviour.specs.Keys.{begins, is_key, key_cmp}
use Rattle.ng_watch.specs.Seen.{Watching, Watcher}
use Rattle.ng_watch.specs.Table.{with_kept, with_watch, without_watch}
use Rattle.std.specs.BTreeMap.{insert_entry}
use Rattle.std.specs.Map.{remove_entry}

-- what holds of a state over scopes and so many objects
pub record Stays (t : List Scope) (objects : ℕ) (s : State) : Type 0 where
  pub listeners : ListenersStand (length t) s.declared
  pub rows : RowsStand objects s.inner s.instances s.watchers
  pub scopes : HaveScopes t s.inner s.instances
  pub bodies : HaveBodies s.templates s.instances

abbrev Listener : ℕ → Key × Listening → Type 0
Listener n e = e.1.scope < n

abbrev Row : ℕ → State → Key × Watcher → Type 0
Row n s e = RowStands n (is_site s.inner s.instances e.0) e.1.kept

pub stays_of : (w : Works) → IsWhole w → Stays w.core.scopes (length w.core.store) (state_of w)
stays_of w h = record { listeners = h.listeners; rows = h.kept; scopes = h.scopes; bodies = h.bodies }

-- the core is the same, and works stand
pub whole_by : (v w : Works) → IsWhole v → w.core ≡ v.core → IsStanding w → Stays v.core.scopes (length v.core.store) (state_of w) → IsWhole w
whole_by v w h e stands s = record {
  sound = subst (λ (c : Core). IsSound c) (sym e) h.sound;
  idle = subst (λ (c : Core). c.depth ≡ 0) (sym e) h.idle;
  root = subst (λ (c : Core). 0 < length c.scopes) (sym e) h.root;
  standing = stands;
  listeners = subst (λ (c : Core). ListenersStand (length c.scopes) (state_of w).declared) (sym e) s.listeners;
  kept = subst (λ (c : Core). RowsStand (length c.store) (state_of w).inner (state_of w).instances (state_of w).watchers) (sym e) s.rows;
  scopes = subst (λ (c : Core). HaveScopes c.scopes (state_of w).inner (state_of w).instances) (sym e) s.scopes;
  bodies = s.bodies;
}

-- what stood stands
pub whole_with : (v w : Works) → IsWhole v → w.core ≡ v.core → ((ts : Stands) → Standing v ts → Standing w ts) → Stays v.core.scopes (length v.core.store) (state_of w) → IsWhole w
whole_with v w h e g s = whole_by v w h e (h.standing.0, g h.standing.0 h.standing.1) s

-- The core is another one, which has no fewer scopes and objects, and no lower number of registration.
pub whole_wider : (w : Works) (core : Core) → IsWhole w → IsSound core → core.depth ≡ 0 → length w.core.scopes ≤ length core.scopes → HaveScopes core.scopes (state_of w).inner (state_of w).instances → length w.core.store ≤ length core.store → w.core.serial.0 ≤ core.serial.0 → IsWhole (record w { core = core })
whole_wider w core h sound idle count scopes store serial = record {
  sound = sound;
  idle = idle;
  root = (let r = h.root in omega (arith, r, count));
  standing = (h.standing.0, core_stands w core serial store h.standing.0 h.standing.1);
  listeners = listeners_more (length w.core.scopes) (length core.scopes) count (state_of w).declared h.listeners;
  kept = rows_more (length w.core.store) (length core.store) store (is_site (state_of w).inner (state_of w).instances) (state_of w).watchers h.kept;
  scopes = scopes;
  bodies = h.bodies;
}

-- instances keep their scopes where there may be more
below_more : (m n : ℕ) (ns : List ℕ) → m ≤ n → AllByRecursion (λ (k : ℕ). k < m) ns → AllByRecursion (λ (k : ℕ). k < n) ns
below_more m n [] le h = tt
below_more m n (k ∷ ks) le h = (omega (arith, le, h.0), below_more m n ks le h.1)

inner_more : (t u : List Scope) → AreMore t u → (xs : List Inner) → AllByRecursion (HasInner t) xs → AllByRecursion (HasInner u) xs
inner_more t u more [] h = tt
inner_more t u more (i ∷ xs) h =
    let le = more_count t u more in
    let lt = h.0.0 in
    ((omega (arith, lt, le), more_path t u i.scope more lt ∙ h.0.1), inner_more t u more xs h.1)

bound_more : (m n : ℕ) → m ≤ n → (b : Bound) → BoundStands m b → BoundStands n b
bound_more m n le (bound_text s name ps) h = omega (arith, le, h)
bound_more m n le (bound_in s name) h = omega (arith, le, h)
bound_more m n le (bound_both s name o w) h = (omega (arith, le, h.0), omega (arith, le, h.1))

pub bounds_more : (m n : ℕ) → m ≤ n → (bs : Bounds) → AllByRecursion (λ (e : ℕ × Bound). BoundStands m e.1) bs → AllByRecursion (λ (e : ℕ × Bound). BoundStands n e.1) bs
bounds_more m n le [] h = tt
bounds_more m n le (e ∷ es) h = (bound_more m n le e.1 h.0, bounds_more m n le es h.1)

outlets_more : (t u : List Scope) (inner : Inners) (p : List ℕ) → AreMore t u → (xs : List OutletState) → AllByRecursion (OutletStands t inner p) xs → AllByRecursion (OutletStands u inner p) xs
outlets_more t u inner p more [] h = tt
outlets_more t u inner p more (x ∷ xs) h =
    let le = more_count t u more in
    let lt = h.0.scope in (
      record {
        scope = omega (arith, lt, le);
        path = ap (instance_path inner) (more_path t u x.scope more lt) ∙ h.0.path;
        outsides = below_more (length t) (length u) x.outsides le h.0.outsides;
      },
      outlets_more t u inner p more xs h.1,
    )

pub scopes_more : (t u : List Scope) → AreMore t u → (inner : Inners) (is : Instances) → HaveScopes t inner is → HaveScopes u inner is
scopes_more t u more inner [] h = tt
scopes_more t u more inner (e ∷ is) h =
    let le = more_count t u more in
    let lt = h.0.scope in (
      record {
        scope = omega (arith, lt, le);
        path = more_path t u e.1.page.scope more lt ∙ h.0.path;
        inner = inner_more t u more e.1.page.inner h.0.inner;
        bounds = bounds_more (length t) (length u) le e.1.page.bounds h.0.bounds;
        outlets = outlets_more t u inner e.0 more e.1.page.outlets h.0.outlets;
      },
      scopes_more t u more inner is h.1,
    )

-- it has the same scopes, but that some may be dead
pub whole_after : (w : Works) (core : Core) → IsWhole w → IsSound core → core.depth ≡ 0 → paths_of core.scopes ≡ paths_of w.core.scopes → length w.core.store ≤ length core.store → w.core.serial.0 ≤ core.serial.0 → IsWhole (record w { core = core })
whole_after w core h sound idle paths store serial =
    let count : length core.scopes ≡ length w.core.scopes = same_count w.core.scopes core.scopes paths in
    whole_wider w core h sound idle (omega (arith, count)) (scopes_more w.core.scopes core.scopes (more_same w.core.scopes core.scopes paths) (state_of w).inner (state_of w).instances h.scopes) store serial

pub whole_left : (w : Works) (core : Core) (c : act.State) → IsWhole w → cores.state_of core ≡ c → Rises (mark (cores.state_of w.core)) (mark c) → IsSound core → core.depth ≡ 0 → length w.core.store ≤ length core.store → IsWhole (record w { core = core })
whole_left w core c h e rises sound idle store =
    let r : Rises (mark (cores.state_of w.core)) (mark (cores.state_of core)) = subst (λ (s : act.State). Rises (mark (cores.state_of w.core)) (mark s)) (sym e) rises in
    whole_after w core h sound idle r.1 store r.0

-- After a run left the core. Want of memory leaves nothing to be said.
pub whole_ran : (w : Works) (core : Core) (end : Result Value Fault) (r : Run Value) → IsWhole w → Acts same end (cores.state_of core) r → Rises (mark (cores.state_of w.core)) (mark r.0) → IsSound core → core.depth ≡ 0 → length w.core.store ≤ length core.store → Unless end (IsWhole (record w { core = core }))
whole_ran w core (Ok v) r h acts rises sound idle store = whole_left w core r.0 h (sym (ap (λ (q : Run Value). q.0) acts)) rises sound idle store
whole_ran w core (Err e) r h acts rises sound idle store = λ told. whole_left w core r.0 h (sym (ap (λ (q : Run Value). q.0) (acts told))) rises sound idle store

-- So after a call that has an answer of its own.
pub whole_acts : {A B : Type 0} (seen : A → B) (w : Works) (core : Core) (end : Result A Fault) (r : Run B) → IsWhole w → Acts seen end (cores.state_of core) r → Rises (mark (cores.state_of w.core)) (mark r.0) → IsSound core → core.depth ≡ 0
    → length w.core.store ≤ length core.store → Unless end (IsWhole (record w { core = core }))
whole_acts {A} {B} seen w core (Ok v) r h acts rises sound idle store = whole_left w core r.0 h (sym (ap (λ (q : Run B). q.0) acts)) rises sound idle store
whole_acts {A} {B} seen w core (Err e) r h acts rises sound idle store = λ told. whole_left w core r.0 h (sym (ap (λ (q : Run B). q.0) (acts told))) rises sound idle store

pub whole_run : (w : Works) (core : Core) (end : Result Value Fault) (r : Run ViewTree) → IsWhole w → Acts same end (cores.state_of core) (as_value_run r) → Rises (mark (cores.state_of w.core)) (mark r.0) → IsSound core → core.depth ≡ 0 → length w.core.store ≤ length core.store → Unless end (IsWhole (record w { core = core }))
whole_run w core end r h acts rises = whole_ran w core end (as_value_run r) h acts (subst (λ (s : act.State). Rises (mark (cores.state_of w.core)) (mark s)) (sym (value_run_state r)) rises)

module _ (scopes : List Scope) (objects : ℕ) where
  abbrev Kept : State → Type 0
  Kept s = Stays scopes objects s

  choose : (b : Bool) (s t : State) → Kept s → Kept t → Kept (if b then s else t)
  choose true s t h k = h
  choose false s t h k = k

  pub keeping_stays : (k : Key) (v : ViewTree) (s : State) → RowStands objects (is_site s.inner s.instances k) (Some v) → Kept s → Kept (keeping_at k v s)
  keeping_stays k v s one h = record { listeners = h.listeners; rows = rows_keeping objects (is_site s.inner s.instances) k (Some v) s.watchers one h.rows; scopes = h.scopes; bodies = h.bodies }

  pub unset_stays : (k : Key) (s : State) → Kept s → Kept (unset_at k s)
  unset_stays k s h = choose (is_drawn s k) s (record s { watchers = with_kept k None s.watchers }) h (record { listeners = h.listeners; rows = rows_unset objects (is_site s.inner s.instances) k s.watchers h.rows; scopes = h.scopes; bodies = h.bodies })

  declared_stays : (k : Key) (w : Watching) (l : Listening) (s : State) → l.scope < length scopes → Kept s → Kept (declared_at k w l s)
  declared_stays k w l s lt h = choose (is_site s.inner s.instances k) s (record s { watchers = with_watch k w s.watchers; declared = insert_entry key_cmp s.declared k l }) h
      (record {
        listeners = all_inserted (Listener (length scopes)) key_cmp s.declared k l h.listeners (λ q. lt);
        rows = rows_watched objects (is_site s.inner s.instances) k w s.watchers h.rows;
        scopes = h.scopes;
        bodies = h.bodies;
      })

  undeclared_stays : (k : Key) (s : State) → Kept s → Kept (undeclared_at k s)
  undeclared_stays k s h = choose (is_site s.inner s.instances k) s (record s { watchers = without_watch k s.watchers; declared = remove_entry (is_key k) s.declared }) h
      (record {
        listeners = all_removed (Listener (length scopes)) (is_key k) s.declared h.listeners;
        rows = all_removed (Row objects s) (is_key k) s.watchers h.rows;
        scopes = h.scopes;
        bodies = h.bodies;
      })

  pub left_stays : (p : List ℕ) (s : State) → Kept s → Kept (left_at p s)
  left_stays p s h = record {
    listeners = all_filtered (Listener (length scopes)) (λ e. not (begins p e.0.path)) s.declared h.listeners;
    rows = all_filtered (Row objects s) (λ e. not (begins p e.0.path)) s.watchers h.rows;
    scopes = h.scopes;
    bodies = h.bodies;
  }

  pub ended_stays : (s : State) → Kept s → Kept (ended_at s)
  ended_stays s h = record {
    listeners = h.listeners;
    rows = all_filtered (Row objects s) (λ e. not (is_over s.core.objects e.1)) s.watchers h.rows;
    scopes = h.scopes;
    bodies = h.bodies;
  }

  -- one of the changes is done
  pub applied_stays : (c : Change) (s : State) → ChangeStands (length scopes) c → Kept s → Kept (applied c s)
  applied_stays (adds w) s lt h = declared_stays (key_in s w.scope w.serial) (watching_in s w) (listening_in w) s lt h
  applied_stays (removes scope serial) s lt h = undeclared_stays (key_in s scope serial) s h
  applied_stays (leaves scope) s lt h = left_stays (path_at s.core.scopes scope) s h

-- what is linked stays linked

-- two states have the same instances, with the same inner scopes
abbrev pub SameLinked : State → State → Type 0
SameLinked s t = (t.instances ≡ s.instances) × (t.inner ≡ s.inner)

pub linked-trans : (s t u : State) → SameLinked s t → SameLinked t u → SameLinked s u
linked-trans s t u h k = (k.0 ∙ h.0, k.1 ∙ h.1)

linked_choice : (b : Bool) (s t u : State) → SameLinked u s → SameLinked u t → SameLinked u (if b then s else t)
linked_choice true s t u h k = h
linked_choice false s t u h k = k

pub applied_same : (c : Change) (s : State) → SameLinked s (applied c s)
applied_same (adds w) s =
    let k : Key = key_in s w.scope w.serial in
    linked_choice (is_site s.inner s.instances k) s (record s { watchers = with_watch k (watching_in s w) s.watchers; declared = insert_entry key_cmp s.declared k (listening_in w) }) s (refl, refl) (refl, refl)
applied_same (removes scope serial) s =
    let k : Key = key_in s scope serial in
    linked_choice (is_site s.inner s.instances k) s (record s { watchers = without_watch k s.watchers; declared = remove_entry (is_key k) s.declared }) s (refl, refl) (refl, refl)
applied_same (leaves scope) s = (refl, refl)

all_same : (cs : List Change) (s : State) → SameLinked s (applied_all cs s)
all_same [] s = (refl, refl)
all_same (c ∷ cs) s = linked-trans s (applied c s) (applied_all cs (applied c s)) (applied_same c s) (all_same cs (applied c s))

pub changed_same : (s : State) → SameLinked s (changed s)
changed_same s = all_same s.core.changes (without_changes s)

pub changed_linked : (s : State) → (changed s).instances ≡ s.instances
changed_linked s = (changed_same s).0

pub followed_same : {A : Type 0} (r : Run A) (s : State) → SameLinked s (followed r s)
followed_same r s = changed_same (with_core (handed r) s)

pub followed_linked : {A : Type 0} (r : Run A) (s : State) → (followed r s).instances ≡ s.instances
followed_linked r s = (followed_same r s).0

unset_same : (k : Key) (s : State) → SameLinked s (unset_at k s)
unset_same k s = linked_choice (is_drawn s k) s (record s { watchers = with_kept k None s.watchers }) s (refl, refl) (refl, refl)

pub unset_linked : (k : Key) (s : State) → (unset_at k s).instances ≡ s.instances
unset_linked k s = (unset_same k s).0
