-- The rendering of a page is that of its instance, over scopes and objects that are there.
use Rattle.std.proofs.Common.{◌≡◌, ◌<◌, ℕ, zero, suc, Bool, true, false, List, [], ◌∷◌, map, length, cond, Option, Some, None, refl, ap, sym, subst, slice_get}
use Rattle.std.specs.Prelude.{option_map}
use Rattle.std.specs.List.{AllByRecursion}
use Rattle.ng_base.specs.Objects.{Object}
use Rattle.ng_behaviour.specs.ScopeObjects.{AreAmong}
use Rattle.ng_behaviour.specs.Scopes.{Scope, object_at}
use Rattle.ng_drawing.specs.Drawing.{shown_as}
use Rattle.ng_drawing.specs.Instance as instances
use Rattle.ng_drawing.specs.Instance.{Instance, SiteState, instances_from, outlets_from}
use Rattle.ng_build.specs.Controls.{Controls}
use Rattle.ng_instances.specs.Instances.{Body, OutletState, Page, Linked, Instances, is_path, linked_at, key_in, scope_number, read_bodies, read}
use Rattle.ng_instances.specs.Registering.{mark_in}
use Rattle.ng_link.specs.State.{Resting, State, site_state, site_states, groups_in, instance_join, nothing_linked, instance_at, instance, rendering}
use Rattle.ng_markup.specs.Forest.{no_nodes}
use Rattle.ng_render.specs.OverOf.{NamesStand, InstanceStands, InstancesStand, OutletsStand}
use Rattle.ng_watch.specs.Table.{Table}
use Rattle.ng_commands.specs.Settled.{IsInner, IsWatched}
use Rattle.ng_page.proofs.Rendering.{all_entries}
use Rattle.ng_commands.proofs.Watched.{scope_within}

-- what is found of a list's answers is one of them
mapped_at : (f : ℕ → SiteState) (ns : List ℕ) (i : ℕ) (s : SiteState) → slice_get (map f ns) i ≡ Some s → (n : ℕ) × (f n ≡ s)
mapped_at f [] i s e = absurd (cc)
mapped_at f (n ∷ ns) zero s e = (n, let one : f n ≡ s = cc in one)
mapped_at f (n ∷ ns) (suc i) s e = mapped_at f ns i s e

module _ (objects : List Object) (scopes : List Scope) (among : AreAmong (length objects) scopes) (t : Table) (r : Resting) (cs : Controls) where
  -- the scopes of an instance are there
  abbrev HasScopes : Page → Type 0
  HasScopes p = (p.scope < length scopes) × AllByRecursion (IsInner scopes) p.inner

  states_stand : (p : Page) → HasScopes p → NamesStand objects scopes (site_states t r cs p)
  states_stand p there = record {
    state = λ n s e.
        let one = mapped_at (λ (k : ℕ). site_state t r cs (scope_number p (mark_in p.marks k).over) (key_in p k)) p.serials n s e in
        let scope : ℕ = scope_number p (mark_in p.marks one.0).over in
        let same : s.scope ≡ scope = ap (λ (v : SiteState). v.scope) (sym one.1) in
        let low : scope < length scopes = scope_within scopes p (mark_in p.marks one.0).over there.0 there.1 in
        record {
          scope = subst (λ k. k < length scopes) (sym same) low;
          object = subst (λ k. object_at scopes k < length objects) (sym same) (among.below scope low);
        };
  }

  abbrev go_in : Instances → List ℕ → Instance
  go_in is = read nothing_linked (instance_join t r cs) is

  bodies_stand : (is : Instances) (bs : List Body) → ((p : List ℕ) → InstanceStands objects scopes (go_in is p)) → InstancesStand objects scopes (instances_from (map (λ (b : Body). go_in is b.path) bs))
  bodies_stand is [] each = tt
  bodies_stand is (b ∷ bs) each = (each b.path, bodies_stand is bs each)

  outlets_stand : (is : Instances) (xs : List OutletState) → ((p : List ℕ) → InstanceStands objects scopes (go_in is p)) → OutletsStand objects scopes (outlets_from (groups_in xs (map instances_from (read_bodies (go_in is) xs))))
  outlets_stand is [] each = tt
  outlets_stand is (x ∷ xs) each = (bodies_stand is x.bodies each, outlets_stand is xs each)

  -- what is read off stands
  read_stands : (is : Instances) → AllByRecursion (λ (e : List ℕ × Linked). HasScopes e.1.page) is → (p : List ℕ) → InstanceStands objects scopes (go_in is p)
  read_stands [] all p = (record { state = λ n s e. absurd (cc) }, tt)
  read_stands (e ∷ is) all p = by_path (is_path p e.0) (states_stand e.1.page all.0, outlets_stand is e.1.page.outlets (read_stands is all.1)) (read_stands is all.1 p)
    where
      by_path : (b : Bool) → InstanceStands objects scopes (instance_join t r cs e.1 (read_bodies (go_in is) e.1.page.outlets)) → InstanceStands objects scopes (go_in is p)
          → InstanceStands objects scopes (cond b (instance_join t r cs e.1 (read_bodies (go_in is) e.1.page.outlets)) (go_in is p))
      by_path true here more = here
      by_path false here more = more

-- an instance that is there is read off
instance_there : (s : State) (o : Option Linked) (i : Instance) → Some i ≡ option_map (λ (l : Linked). instance_at s.watchers s.resting s.controls s.instances []) o → i ≡ instance_at s.watchers s.resting s.controls s.instances []
instance_there s None i e = absurd (cc)
instance_there s (Some l) i e = cc

pub names_stand : (s : State) (i : Instance) → AreAmong (length s.core.objects) s.core.scopes → IsWatched s → Some i ≡ instance s → InstanceStands s.core.objects s.core.scopes i
names_stand s i among h e =
    subst (InstanceStands s.core.objects s.core.scopes) (sym (instance_there s (linked_at [] s.instances) i e))
    (read_stands s.core.objects s.core.scopes among s.watchers s.resting s.controls s.instances
    (all_entries (λ (x : List ℕ × Linked). (x.1.page.scope < length s.core.scopes) × AllByRecursion (IsInner s.core.scopes) x.1.page.inner) s.instances h.paths (λ p l at. ((h.linked p l at).there, (h.linked p l at).inner))) [])

pub page_rendered : (s : State) (i : Instance) → Some i ≡ instance s → instances.rendering s.core.objects s.core.scopes i ≡ rendering s
page_rendered s i e = ap (instances.rendering s.core.objects s.core.scopes) (instance_there s (linked_at [] s.instances) i e)

-- without an instance nothing is linked
none_read : (t : Table) (r : Resting) (cs : Controls) (is : Instances) (p : List ℕ) → linked_at p is ≡ None → instance_at t r cs is p ≡ nothing_linked
none_read t r cs [] p e = refl
none_read t r cs (x ∷ is) p e = by_path (is_path p x.0) e (none_read t r cs is p)
  where
    by_path : (b : Bool) → cond b (Some x.1) (linked_at p is) ≡ None → (linked_at p is ≡ None → instance_at t r cs is p ≡ nothing_linked)
        → cond b (instance_join t r cs x.1 (read_bodies (instance_at t r cs is) x.1.page.outlets)) (instance_at t r cs is p) ≡ nothing_linked
    by_path true e more = absurd (cc)
    by_path false e more = more e

none_there : (s : State) (o : Option Linked) → None ≡ option_map (λ (l : Linked). instance_at s.watchers s.resting s.controls s.instances []) o → o ≡ None
none_there s None e = refl
none_there s (Some l) e = absurd (cc)

pub none_rendered : (s : State) → None ≡ instance s → rendering s ≡ shown_as no_nodes
none_rendered s e = ap (instances.rendering s.core.objects s.core.scopes) (none_read s.watchers s.resting s.controls s.instances [] (none_there s (linked_at [] s.instances) e))
